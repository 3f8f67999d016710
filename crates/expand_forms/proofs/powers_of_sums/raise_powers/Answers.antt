use Rattle.expand_forms.proofs.Shared.{◌∙◌, ◌≡◌, ◌<◌, ◌-◌, ◌+◌, ℕ, suc, false, ap, subst, sym, arith, IsExpression, OfFull, OfOverflow, Tree, Trees, expanded, plain, tree_at, children_number}
use Rattle.expand_forms.proofs.Shared.{children_of, count, expression, forest, free_of, kept_same, most_bits, nth, passed_on, polynomial_of, seen, size, tree_of, full_as, IsOverReady}
use Rattle.expand_forms.proofs.Shared.{has_power_of_sum, is_power_of_sum, MayLack, changes_after, changes_as, changes_free, changes_front, changes_last, changes_last_front, changes_none}
use Rattle.expand_forms.proofs.{Shared.{children_told, front_again, keeps_after, live}, Nodes.{from}, PowersOfSums.{none_behind, one_more_behind, over_expanded, over_set, raised_behind}}
use Rattle.tree_handles.proofs.SmallLaws.{replaced_count as count_set}
use Rattle.expand_forms.proofs.{PowersOfSums.{set_children}, powers_of_sums.raise_powers.Goals.{After-child_id}}
use Rattle.number_forms.proofs.Safety.{answered, no_answer, passed, then_safe}
use Rattle.expand_forms.proofs.powers_of_sums.raise_powers.Goals as goal

pub children-left-requires-clause-live : goal.children-left-requires-clause-live
children-left-requires-clause-live c = live c.args.pool.now c.id.ensures c.requires.handed.root

pub loop-left-init : goal.loop-left-init
loop-left-init c = let many = children_told c.id.ensures c.children-left.ensures.value c.requires.stands c.requires.handed in record {
  stands = c.requires.stands;
  kept = kept_same c.args.pool.now;
  changed = changes_none c.requires.handed;
  over = λ whole p o. o;
  within = omega (arith, many);
  raised = none_behind c.children-left.result (children_of (tree_of c.args.tree c.args.pool.now)) (omega (arith, many));
}

-- ---- the next child

module _ (c : After-child_id) where
  abbrev n : ℕ
  n = c.loop-left.left - 1

  abbrev now : Tree
  now = tree_of c.args.tree c.loop-left.pool

  behind : c.loop-left.left ≡ suc n
  behind = omega (arith, c.loop-left-test.true)

  within : n < count (children_of now)
  within = omega (arith, c.loop-left.invariant.within, c.loop-left-test.true)

  raised : has_power_of_sum (from (suc n) (children_of now)) ≡ false
  raised = subst (λ (k : ℕ). has_power_of_sum (from k (children_of now)) ≡ false) behind c.loop-left.invariant.raised

  there : IsExpression c.id-in-loop-left.result (forest c.loop-left.pool)
  there = expression c.id-in-loop-left.ensures c.loop-left.invariant.stands c.loop-left.invariant.changed.handed

  child : plain (tree_at c.child_id.result (forest c.loop-left.pool)) ≡ nth n (children_of now)
  child = c.child_id.ensures.plain there ∙ ap (λ (t : Tree). nth n (children_of t)) (seen c.id-in-loop-left.ensures c.loop-left.invariant.stands c.loop-left.invariant.changed.handed)

pub child_id-requires-clause-within : goal.child_id-requires-clause-within
child_id-requires-clause-within c =
    let i = c.loop-left.invariant in
    let s = seen c.id-in-loop-left.ensures i.stands i.changed.handed in
    omega (
      arith,
      i.within,
      c.loop-left-test.true,
      children_number c.id-in-loop-left.result (forest c.loop-left.pool) (expression c.id-in-loop-left.ensures i.stands i.changed.handed),
      ap (λ (t : Tree). count (children_of t)) s,
    )

pub is_power_of_sum-requires-clause-expression : goal.is_power_of_sum-requires-clause-expression
is_power_of_sum-requires-clause-expression c = c.child_id.ensures.expression (there (goal.at.is_power_of_sum-requires-clause-expression c).After-child_id)

pub raise_power-requires : goal.raise_power-requires
raise_power-requires c = let k = (goal.at.raise_power-requires c).After-child_id in let i = c.loop-left.invariant in let o = c.requires.over in record {
  stands = i.stands;
  handed = i.changed.handed;
  within = within k;
  power = ap is_power_of_sum (sym (child k)) ∙ sym c.is_power_of_sum.ensures ∙ c.if-not-is_power_of_sum.false;
  over = record { whole = o.whole; taken = o.taken; over = i.over o.whole o.taken o.over };
}

pub loop-left-preserved : goal.loop-left-preserved
loop-left-preserved c =
    let k = (goal.at.loop-left-preserved c).After-child_id in
    let i = c.loop-left.invariant in
    let o = c.requires.over in
    let h = ap is_power_of_sum (sym (child k)) ∙ sym c.is_power_of_sum.ensures ∙ c.if-not-is_power_of_sum.false in
    let ok = c.in_ok-raise_power.ensures.ok in
    let v = polynomial_of (nth (n k) (children_of (now k))) in
    let below = ap children_of ok.tree ∙ set_children o.whole (now k) (n k) (expanded v) (i.over o.whole o.taken o.over) (within k) in
    record {
      stands = c.in_ok-raise_power.ensures.safe.stands;
      kept = keeps_after _ _ _ i.kept c.in_ok-raise_power.ensures.safe.kept;
      changed = changes_after i.changed (changes_as ok (sym ok.tree));
      over = λ whole p x. subst (IsOverReady whole) (sym ok.tree) (over_set whole (now k) (n k) (i.over whole p x) (within k) h);
      within = omega (arith, within k, ap count below, count_set (n k) (expanded v) (children_of (now k)));
      raised = ap (λ (ts : Trees). has_power_of_sum (from (n k) ts)) below ∙ raised_behind (n k) v (children_of (now k)) (within k) (raised k);
    }

pub loop-left-preserved-then-not-is_power_of_sum : goal.loop-left-preserved-then-not-is_power_of_sum
loop-left-preserved-then-not-is_power_of_sum c =
    let k = (goal.at.loop-left-preserved-then-not-is_power_of_sum c).After-child_id in
    let i = c.loop-left.invariant in
    let h = ap is_power_of_sum (sym (child k)) ∙ sym c.is_power_of_sum.ensures ∙ c.if-not-is_power_of_sum.true in
    record { stands = i.stands; kept = i.kept; changed = i.changed; over = i.over; within = omega (arith, within k); raised = one_more_behind (n k) (children_of (now k)) (within k) h (raised k) }

-- ---- all of them, or one that is refused

pub returns : goal.returns
returns c =
    let i = c.loop-left.invariant in
    let none : c.loop-left.left ≡ 0 = omega (arith, c.loop-left-test.false) in
    let raised = subst (λ (k : ℕ). has_power_of_sum (from k (children_of (tree_of c.args.tree c.loop-left.pool))) ≡ false) none i.raised in record {
      ok = λ whole p o. changes_last i.changed c.move_last.ensures.last (over_expanded (i.over whole p o) raised);
      safe = answered (changes_last_front i.changed c.move_last.ensures.last) (keeps_after _ _ _ i.kept c.move_last.ensures.kept) c.move_last.ensures.stands;
      fits = λ whole p o. tt;
      room = λ whole p o. tt;
    }

pub returns-in_err-raise_power : goal.returns-in_err-raise_power
returns-in_err-raise_power c = let r = c.from_residual.result in let e = c.in_err-raise_power.field-0.0 in let said = c.from_residual.ensures in record {
  ok = λ a b d. no_answer r _ said.0;
  fits = λ whole p o. passed_on r e (OfOverflow (λ v. 124 < most_bits whole)) said.0 said.1 (c.in_err-raise_power.ensures.fits whole p (c.loop-left.invariant.over whole p o));
  room = λ whole p o.
      let i = c.loop-left.invariant in
      let free = changes_free c.requires.stands i.stands i.kept c.requires.handed i.changed in
      passed_on r e (OfFull (λ full. MayLack whole (free_of c.args.pool.now + size (tree_of c.args.tree c.args.pool.now)))) said.0 said.1
      (full_as c.in_err-raise_power.field-0.0 (c.in_err-raise_power.ensures.room whole p (i.over whole p o)) (λ full l. omega (arith, l, free)));
  safe = let i = c.loop-left.invariant in let s = c.in_err-raise_power.ensures.safe in then_safe i.kept (front_again (changes_front i.changed) s.front) (passed r e said.0 said.1 s);
}
