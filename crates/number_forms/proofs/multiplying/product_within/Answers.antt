use Rattle.number_forms.proofs.Shared.{◌≡◌, ℕ, ◌++◌, refl, sym, ap, ◌∙◌, subst, arith, ◌*◌, ◌^◌, ◌<◌, length, is_number, value, surd_times, Same-trans, Same-eq, IsSum, lists_at, lists_none}
use Rattle.number_forms.proofs.Shared.{lists_listed, root_ids, kids_of_last, expression_root, Tree, other_plain, gives_rest, kept_after, overflow_as, tree_of, IsHanded, IsExpression, without_root}
use Rattle.number_forms.proofs.Shared.{forest, behind_new, front_same, front_after_one, given_told, given_other, given_rest, gives_as, handed_at, ProductOverflows, passed_on, Spans, free_of}
use Rattle.number_forms.proofs.{Shared.{joining_need, refused_below, given_free}, Denominators.{shares_eq}, Over.{over_as}, Rooms.{full_as, few_for, number_spans}, Refusals.{none_given}}
use Rattle.number_forms.proofs.{Safety.{after_one, answer_of, passed, passed_full, refused}, Loops.{reads}}
use Rattle.tree_handles.specs.declared.fault.NumberFault.TheVariants as fault
use Rattle.number_forms.proofs.multiplying.product_within.Goals as goal

pub join_rows-requires : goal.join_rows-requires
join_rows-requires g c = (omega (arith, c.requires.few), (c.in_ok-sum.ensures.stands, (gives_rest (c.in_ok-sum.ensures.given refl) (λ t e. subst IsSum (sym e) (tt, tt)), (lists_none c.new-list.ensures (ap root_ids (kids_of_last c.in_ok-sum.ensures.stands c.in_ok-sum.ensures.ok)), (subst (λ (i : ℕ). IsHanded i (without_root c.in_ok-sum.sum (forest c.node.new.pool))) (sym c.id-2.ensures) (handed_at c.requires.first (given_rest (c.in_ok-sum.ensures.given refl))), (subst (λ (i : ℕ). IsHanded i (without_root c.in_ok-sum.sum (forest c.node.new.pool))) (sym c.id-3.ensures) (handed_at c.requires.second (given_rest (c.in_ok-sum.ensures.given refl))), (ap (λ (i : ℕ). is_number (tree_of i c.node.new.pool)) c.id-2.ensures ∙ ap is_number (other_plain c.args.a.now (c.in_ok-sum.ensures.given refl) c.requires.first.root) ∙ c.requires.first_number, (ap (λ (i : ℕ). is_number (tree_of i c.node.new.pool)) c.id-3.ensures ∙ ap is_number (other_plain c.args.b.now (c.in_ok-sum.ensures.given refl) c.requires.second.root) ∙ c.requires.second_number, lists_at (c.id-3.ensures ∙ sym c.id.ensures) (lists_listed _ c.of-terms.ensures)))))))))

pub number_of-requires-clause-sum : goal.number_of-requires-clause-sum
number_of-requires-clause-sum g c = gives_rest c.in_ok-join_rows.ensures.ok (λ t h. h.sum)

pub of-terms-requires : goal.of-terms-requires
of-terms-requires g c = (omega (arith, c.requires.few), (c.in_ok-sum.ensures.stands, subst (λ (i : ℕ). IsExpression i (forest c.node.new.pool)) (sym c.id.ensures) (expression_root c.in_ok-sum.ensures.stands (given_other (c.in_ok-sum.ensures.given refl) c.requires.second))))

pub new-list-requires : goal.new-list-requires
new-list-requires g c = omega (arith, c.requires.few)

pub returns-in_err-sum : goal.returns-in_err-sum
returns-in_err-sum g c = let r = c.from_residual.result in let e = fault.Full c.in_err-sum.field-0.0 in let said = c.from_residual.ensures in record {
  ok = none_given r _ said.0;
  overflow = passed_on r e _ said.0 said.1 tt;
  room = λ gs s t. let few : free_of c.args.pool.now < 8 = refused_below c.in_err-sum.ensures.full in
      passed_on r e _ said.0 said.1 (omega (arith, few_for gs (free_of c.args.pool.now) (omega arith)));
  safe = refused r c.in_err-sum.field-0.0 said.0 said.1 c.in_err-sum.ensures.full c.node.ensures.stands;
}

pub returns-in_err-join_rows : goal.returns-in_err-join_rows
returns-in_err-join_rows g c = let r = c.from_residual-in_err-join_rows.result in let e = c.in_err-join_rows.field-0.0 in let said = c.from_residual-in_err-join_rows.ensures in record {
  ok = none_given r _ said.0;
  overflow = let new = c.in_ok-sum.ensures.given refl in let a = reads c.id-2.ensures new c.requires.first in
      let b = reads c.id-3.ensures new c.requires.second in
      passed_on r e _ said.0 said.1 (overflow_as c.in_err-join_rows.field-0.0 (c.in_err-join_rows.ensures.overflow (ap value (given_told new)))
      (λ o p. subst (λ (t : Tree). ProductOverflows (value (tree_of c.args.a.now c.args.pool.now)) (value t) o) b
      (subst (λ (t : Tree). ProductOverflows (value t) (value (tree_of c.id-3.result c.node.new.pool)) o) a p)));
  room = λ gs s t. let new = c.in_ok-sum.ensures.given refl in
      let free = given_free c.requires.stands c.in_ok-sum.ensures.stands c.in_ok-sum.ensures.kept new in
      let a = reads c.id-2.ensures new c.requires.first in let b = reads c.id-3.ensures new c.requires.second in
      let none = subst (λ (u : Tree). Spans gs (value u)) (sym (given_told new)) tt in
      let first = subst (λ (u : Tree). Spans gs (value u)) (sym a) (number_spans gs _ c.requires.first_number s) in
      let second = subst (λ (u : Tree). Spans gs (value u)) (sym b) (number_spans gs _ c.requires.second_number t) in
      passed_on r e _ said.0 said.1 (full_as c.in_err-join_rows.field-0.0 (c.in_err-join_rows.ensures.room gs none first second) (λ full few. subst (λ (n : ℕ). n < joining_need * 2 ^ length gs) (sym free) few));
  safe = after_one c.in_ok-sum.ensures.kept (behind_new (c.in_ok-sum.ensures.given refl).ends front_same) c.node.ensures.front (passed r e said.0 said.1 c.in_err-join_rows.ensures.safe);
}

pub returns-in_err-number_of : goal.returns-in_err-number_of
returns-in_err-number_of g c = let r = c.from_residual-in_err-number_of.result in let e = fault.Full c.in_err-number_of.field-0.0 in let said = c.from_residual-in_err-number_of.ensures in record {
  ok = none_given r _ said.0;
  overflow = passed_on r e _ said.0 said.1 tt;
  room = λ gs s t. let rows = gives_as c.in_ok-join_rows.ensures.ok (given_rest (c.in_ok-sum.ensures.given refl)) (λ t h. h) in
      let free = given_free c.requires.stands c.in_ok-join_rows.ensures.safe.stands (kept_after c.in_ok-sum.ensures.kept c.in_ok-join_rows.ensures.safe.kept) rows in
      passed_on r e _ said.0 said.1 (omega (arith, few_for gs (free_of c.args.pool.now) (subst (λ (n : ℕ). n < 40) (sym free) c.in_err-number_of.ensures.room)));
  safe = let sum = behind_new (c.in_ok-sum.ensures.given refl).ends front_same in after_one (kept_after c.in_ok-sum.ensures.kept c.in_ok-join_rows.ensures.safe.kept) sum (front_after_one sum c.node.ensures.front c.join_rows.ensures.safe.front) (passed_full r c.in_err-number_of.field-0.0 said.0 said.1 c.in_err-number_of.ensures.safe);
}

pub returns : goal.returns
returns g c = record {
  ok = let new = c.in_ok-sum.ensures.given refl in let rows = c.in_ok-join_rows.ensures.ok in let a = reads c.id-2.ensures new c.requires.first in
      let b = reads c.id-3.ensures new c.requires.second in
      let same : value (tree_of c.in_ok-sum.sum c.node.new.pool) ++ surd_times (value (tree_of c.id-2.result c.node.new.pool)) (value (tree_of c.id-3.result c.node.new.pool))
      ≡ surd_times (value (tree_of c.args.a.now c.args.pool.now)) (value (tree_of c.args.b.now c.args.pool.now)) = λ i. value (given_told new i) ++ surd_times (value (a i)) (value (b i)) in
      gives_as c.in_ok-number_of.ensures.ok (given_rest rows ∙ given_rest new)
      (λ t h. over_as h (Same-trans (given_told rows).worth (Same-eq same)) (λ d p. (given_told rows).parts d (shares_eq (sym same) d p)));
  overflow = tt;
  room = λ a b d. tt;
  safe = let sum = behind_new (c.in_ok-sum.ensures.given refl).ends front_same in after_one (kept_after c.in_ok-sum.ensures.kept c.in_ok-join_rows.ensures.safe.kept) sum (front_after_one sum c.node.ensures.front c.join_rows.ensures.safe.front) (answer_of c.in_ok-number_of.ensures.safe);
}
