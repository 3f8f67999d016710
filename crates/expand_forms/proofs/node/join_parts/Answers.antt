use Rattle.expand_forms.proofs.Shared.{rules, ◌≡◌, ◌<◌, ◌≤◌, ◌+◌, ◌∙◌, ◌++◌, drop, length, ap, sym, subst, arith, Tree, size, polynomial_of, value_of, row, IsExpanded, IsTerm, AreExpanded}
use Rattle.expand_forms.proofs.Shared.{has_polynomial_root, scaled, gives_rest, IsExpression, children_of, plain, Forest, tree_of, tree_at, without_root, forest, behind_first}
use Rattle.expand_forms.proofs.Shared.{given_rest, given_handed, sum_bytes, free_of, OfFull, passed_on, full_as, IsNoOverflow, drop_all, has_parts, parts_of, total, gathered_append, gathered_is}
use Rattle.expand_forms.proofs.{Shared.{gathered_refl, gathered_trans, few_as, few_append}, JoinLoops.{joined_none, IsNextPart, joined_all, joined_lacks, joined_more, part_few, part_held}}
use Rattle.expand_forms.proofs.{PowersOfSums.{all_ready}, NodeParts.{one_term, part_row}, TermReadings.{beside}, Within.{IsWithin, within}, node.join_parts.Goals.{After-part_at-part}}
use Rattle.number_forms.proofs.Safety.{after_one, answered, no_answer, passed}
use Rattle.expand_forms.proofs.node.join_parts.Goals as goal

pub part_count-at-end-requires : goal.part_count-at-end-requires
part_count-at-end-requires c =
    let x = beside c.requires.sum c.requires.expression in record { stands = c.requires.stands; expression = x.expression; parts = ap has_parts x.same ∙ c.requires.parts }

pub loop-at-init : goal.loop-at-init
loop-at-init c = record { lists = c.requires.lists; joined = joined_none c.args.sum.now _ _ c.args.pool.now c.requires.stands c.requires.sum (gathered_refl _) }

pub part_at-part-requires : goal.part_at-part-requires
part_at-part-requires c = let j = c.loop-at.invariant.joined in let now = beside j.gives c.requires.expression in let then = beside c.requires.sum c.requires.expression in record {
  stands = j.stands;
  expression = now.expression;
  polynomial = ap has_polynomial_root now.same ∙ c.requires.polynomial;
  children = all_ready (children_of (plain (tree_at c.args.id (forest c.loop-at.pool)))) (subst (λ (t : Tree). AreExpanded (children_of t)) (sym now.same) c.requires.children);
  within = omega (arith, c.part_count-at-end.ensures, ap (λ (t : Tree). length (parts_of t)) now.same, ap (λ (t : Tree). length (parts_of t)) then.same, c.loop-at-test.true);
}

-- the tree of the part, as it was handed
part_within : (c : After-part_at-part) → IsWithin c.part_at-part.result.tree (without_root c.args.sum.now (forest c.args.pool.now)) (forest c.loop-at.pool)
part_within c = within c.loop-at.invariant.joined.gives c.requires.expression c.part_at-part.ensures.inside c.part_at-part.ensures.expression

expanded_part : (c : After-part_at-part) → IsExpanded (plain (tree_at c.part_at-part.result.tree (without_root c.args.sum.now (forest c.args.pool.now))))
expanded_part c =
    let now = beside c.loop-at.invariant.joined.gives c.requires.expression in
    subst IsExpanded (part_within c).same (c.part_at-part.ensures.expanded (subst (λ (t : Tree). AreExpanded (children_of t)) (sym now.same) c.requires.children))

-- a row, and the parts that are left
next : (c : After-part_at-part) → IsNextPart (total (drop c.loop-at.at (parts_of (plain (tree_at c.args.id (without_root c.args.sum.now (forest c.args.pool.now)))))))
    (row (value_of c.part_at-part.result.factor) (plain (tree_at c.args.one (without_root c.args.sum.now (forest c.loop-at.pool)))) 0
    (plain (tree_at c.part_at-part.result.tree (without_root c.args.sum.now (forest c.loop-at.pool)))))
    (total (drop (c.loop-at.at + 1) (parts_of (plain (tree_at c.args.id (without_root c.args.sum.now (forest c.args.pool.now)))))))
next c =
    let o = without_root c.args.sum.now (forest c.args.pool.now) in
    let q = value_of c.part_at-part.result.factor in
    let i = c.part_at-part.result.tree in
    let r = given_rest c.loop-at.invariant.joined.gives in
    let now = beside c.loop-at.invariant.joined.gives c.requires.expression in
    let rest = total (drop (c.loop-at.at + 1) (parts_of (plain (tree_at c.args.id o)))) in
    let left : total (drop c.loop-at.at (parts_of (plain (tree_at c.args.id o)))) ≡ scaled q (polynomial_of (plain (tree_at i o))) ++ rest =
    ap (λ (t : Tree). total (drop c.loop-at.at (parts_of t))) (sym now.same) ∙ ap total c.part_at-part.ensures.part
    ∙ (λ k. scaled q (polynomial_of ((part_within c).same k)) ++ total (drop (c.loop-at.at + 1) (parts_of (now.same k)))) in
    let same : row q (plain (tree_at c.args.one o)) 0 (plain (tree_at i o)) ++ rest ≡ row q (plain (tree_at c.args.one (without_root c.args.sum.now (forest c.loop-at.pool)))) 0
    (plain (tree_at i (without_root c.args.sum.now (forest c.loop-at.pool)))) ++ rest =
    λ k. row q (plain (tree_at c.args.one (sym r k))) 0 (plain (tree_at i (sym r k))) ++ rest in
    record {
      gathered = gathered_trans (gathered_is left) (gathered_trans
          (gathered_append (part_row q (plain (tree_at c.args.one o)) (plain (tree_at i o)) c.part_at-part.ensures.nonzero c.requires.is_one (expanded_part c)) (gathered_refl rest))
          (gathered_is same));
    }

pub join_row-requires : goal.join_row-requires
join_row-requires c =
    let at = (goal.at.join_row-requires c).After-part_at-part in
    let j = c.loop-at.invariant.joined in
    let r = sym (given_rest j.gives) in
    let i = c.part_at-part.result.tree in
    let one = one_term (plain (tree_at c.args.one (without_root c.args.sum.now (forest c.args.pool.now)))) c.requires.is_one in
    let term = subst (λ (f : Forest). IsTerm (plain (tree_at c.args.one f))) r one in
    let expanded = subst (λ (f : Forest). IsExpanded (plain (tree_at i f))) r (expanded_part at) in
    let first = subst (IsExpression c.args.one) r c.requires.one in
    let second = subst (IsExpression i) r (part_within at).expression in
    (search rules, (j.stands, (gives_rest j.gives (λ t h. h.sum), (c.loop-at.invariant.lists, (c.part_at-part.ensures.nonzero, (first, (second, (term, expanded))))))))

pub loop-at-preserved : goal.loop-at-preserved
loop-at-preserved c = record {
  lists = c.in_ok-join_row.ensures.lists;
  joined = joined_more c.loop-at.invariant.joined
      (next (goal.at.loop-at-preserved c).After-part_at-part) c.in_ok-join_row.ensures.ok c.join_row.ensures.safe.front c.in_ok-join_row.ensures.safe.kept c.join_row.ensures.safe.stands;
}

pub returns-in_err-join_row : goal.returns-in_err-join_row
returns-in_err-join_row c = record {
  ok = no_answer c.from_residual.result _ c.from_residual.ensures.0;
  lists = no_answer c.from_residual.result _ c.from_residual.ensures.0;
  fits = λ h l held k.
      passed_on c.from_residual.result c.in_err-join_row.field-0.0 IsNoOverflow c.from_residual.ensures.0 c.from_residual.ensures.1
      (c.in_err-join_row.ensures.fits h l (part_held c.loop-at.invariant.joined (next (goal.at.returns-in_err-join_row c).After-part_at-part) held) k);
  room = λ ns k n hs ht.
      let j = c.loop-at.invariant.joined in
      let all = part_few j (next (goal.at.returns-in_err-join_row c).After-part_at-part) (few_as (few_append ht hs) (let e : n + k ≤ k + n = omega arith in e)) in
      passed_on c.from_residual.result c.in_err-join_row.field-0.0
      (OfFull (λ full. free_of c.args.pool.now + size (tree_of c.args.sum.now c.args.pool.now) < sum_bytes ns (k + n))) c.from_residual.ensures.0 c.from_residual.ensures.1
      (full_as c.in_err-join_row.field-0.0 (c.in_err-join_row.ensures.room ns (k + n) all) (λ full short. joined_lacks (sum_bytes ns (k + n)) j c.requires.stands (given_handed c.requires.sum) short));
  safe = let j = c.loop-at.invariant.joined in
      after_one j.kept behind_first j.front (passed c.from_residual.result c.in_err-join_row.field-0.0 c.from_residual.ensures.0 c.from_residual.ensures.1 c.in_err-join_row.ensures.safe);
}

pub returns : goal.returns
returns c = record {
  ok = let t = plain (tree_at c.args.id (without_root c.args.sum.now (forest c.args.pool.now))) in
      let then = beside c.requires.sum c.requires.expression in
      joined_all c.loop-at.invariant.joined
      (ap total (drop_all c.loop-at.at (parts_of t) (omega (arith, c.part_count-at-end.ensures, ap (λ (u : Tree). length (parts_of u)) then.same, c.loop-at-test.false))));
  lists = c.loop-at.invariant.lists;
  fits = λ a b d e. tt;
  room = λ a b d e f. tt;
  safe = let j = c.loop-at.invariant.joined in answered j.front j.kept j.stands;
}
