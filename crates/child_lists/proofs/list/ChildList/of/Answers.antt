use Rattle.child_lists.proofs.Shared.{◌≡◌, ◌<◌, ℕ, List, [], ◌∷◌, ◌++◌, Some, length, append_assoc, length-append, sym, ap, ◌∙◌, arith, eqb-true, eqb-false, le-leb, lt-leb, root_ids, kids_of, forest}
use Rattle.child_lists.proofs.{Shared.{told}, ListedChildren.{end_none}}
use Rattle.child_lists.proofs.list.ChildList.of.Goals as goal

pub loop-id-init : goal.loop-id-init
loop-id-init g c = record { left = sym c.child_ids-id-items.ensures ∙ sym c.into_iter-id-iterator.ensures.into_iter_gives; listed = c.new-ids.ensures; few = omega (arith, ap length c.new-ids.ensures) }

pub loop-id-preserved : goal.loop-id-preserved
loop-id-preserved g c = record {
  left = c.loop-id.invariant.left ∙ ap (λ (ys : List ℕ). c.loop-id.yielded ++ ys) c.in-Some.ensures.steps ∙ sym (append_assoc c.loop-id.yielded (c.in-Some.id ∷ []) _);
  listed = c.push.ensures.items ∙ ap (λ (xs : List ℕ). xs ++ (c.in-Some.id ∷ [])) c.loop-id.invariant.listed;
  few = omega (arith, ap length c.push.ensures.items, length-append c.loop-id.ids.items (c.in-Some.id ∷ []), c.loop-id.invariant.few, eqb-false (length c.loop-id.ids.items) g.row.N (sym c.is_full.ensures.value ∙ c.if-is_full.false));
}

-- the identifiers of all children are listed
pub returns : goal.returns
returns g c =
    let all = root_ids (kids_of c.args.parent (forest c.args.pool.now)) in
    let whole : c.loop-id.ids.items ≡ all = c.loop-id.invariant.listed ∙ sym (end_none c.loop-id.yielded) ∙ ap (λ (xs : List ℕ). c.loop-id.yielded ++ xs) (sym c.in-None.ensures.steps.0) ∙ sym c.loop-id.invariant.left in
    ap Some whole ∙ sym (λ i. told (le-leb (length all) g.row.N (omega (arith, ap length whole, c.loop-id.invariant.few)) i) all)

-- one more identifier is left than there is room for
pub returns-then-is_full : goal.returns-then-is_full
returns-then-is_full g c =
    let all = root_ids (kids_of c.args.parent (forest c.args.pool.now)) in
    let parts : all ≡ c.loop-id.yielded ++ (c.in-Some.id ∷ c.next.new.self) = c.loop-id.invariant.left ∙ ap (λ (xs : List ℕ). c.loop-id.yielded ++ xs) c.in-Some.ensures.steps in
    let long : g.row.N < length all = omega (
      arith,
      ap length parts,
      length-append c.loop-id.yielded (c.in-Some.id ∷ c.next.new.self),
      ap length c.loop-id.invariant.listed,
      eqb-true
          (length c.loop-id.ids.items) g.row.N (sym c.is_full.ensures.value ∙ c.if-is_full.true),
    ) in
    sym (λ i. told (lt-leb (length all) g.row.N long i) all)
