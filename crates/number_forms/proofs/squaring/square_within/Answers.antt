use Rattle.number_forms.proofs.Shared.{◌≡◌, ℕ, ◌++◌, refl, sym, ap, ◌∙◌, subst, arith, ◌*◌, ◌^◌, ◌<◌, length, is_number, value, Surd, square_terms, Same-trans, Same-eq, IsSum, lists_at, lists_none}
use Rattle.number_forms.proofs.Shared.{lists_listed, root_ids, kids_of_last, expression_root, Tree, other_plain, gives_rest, kept_after, overflow_as, tree_of, IsHanded, IsExpression, without_root}
use Rattle.number_forms.proofs.Shared.{forest, behind_new, front_same, front_after_one, given_told, given_other, given_rest, gives_as, handed_at, SquareOverflows, passed_on, Spans, free_of}
use Rattle.number_forms.proofs.{Shared.{joining_need, refused_below, given_free}, Squares.{square_same, square_parts}, Denominators.{shares_eq}, Over.{over_as}}
use Rattle.number_forms.proofs.{Rooms.{full_as, few_for, number_spans}, Refusals.{none_given}, Safety.{after_one, answer_of, passed, passed_full, refused}, Loops.{reads}}
use Rattle.tree_handles.specs.declared.fault.NumberFault.TheVariants as fault
use Rattle.number_forms.proofs.squaring.square_within.Goals as goal

pub join_squares-requires : goal.join_squares-requires
join_squares-requires g c =
    let new = c.in_ok-sum.ensures.given refl in
    (omega (arith, c.requires.few), (c.in_ok-sum.ensures.stands, (gives_rest new (λ t e. subst IsSum (sym e) (tt, tt)), (lists_none c.new-list.ensures (ap root_ids (kids_of_last c.in_ok-sum.ensures.stands c.in_ok-sum.ensures.ok)), (subst (λ (i : ℕ). IsHanded i (without_root c.in_ok-sum.sum (forest c.node.new.pool))) (sym c.id-2.ensures) (handed_at c.requires.handed (given_rest new)), (ap (λ (i : ℕ). is_number (tree_of i c.node.new.pool)) c.id-2.ensures ∙ ap is_number (other_plain c.args.a.now new c.requires.handed.root) ∙ c.requires.number, lists_at (c.id-2.ensures ∙ sym c.id.ensures) (lists_listed _ c.of-terms.ensures)))))))

pub number_of-requires-clause-sum : goal.number_of-requires-clause-sum
number_of-requires-clause-sum g c = gives_rest c.in_ok-join_squares.ensures.ok (λ t h. h.sum)

pub of-terms-requires : goal.of-terms-requires
of-terms-requires g c = (omega (arith, c.requires.few), (c.in_ok-sum.ensures.stands, subst (λ (i : ℕ). IsExpression i (forest c.node.new.pool)) (sym c.id.ensures) (expression_root c.in_ok-sum.ensures.stands (given_other (c.in_ok-sum.ensures.given refl) c.requires.handed))))

pub new-list-requires : goal.new-list-requires
new-list-requires g c = omega (arith, c.requires.few)

pub returns-in_err-sum : goal.returns-in_err-sum
returns-in_err-sum g c = let r = c.from_residual.result in let e = fault.Full c.in_err-sum.field-0.0 in let said = c.from_residual.ensures in record {
  ok = none_given r _ said.0;
  overflow = passed_on r e _ said.0 said.1 tt;
  room = λ gs s. let few : free_of c.args.pool.now < 8 = refused_below c.in_err-sum.ensures.full in
      passed_on r e _ said.0 said.1 (omega (arith, few_for gs (free_of c.args.pool.now) (omega arith)));
  safe = refused r c.in_err-sum.field-0.0 said.0 said.1 c.in_err-sum.ensures.full c.node.ensures.stands;
}

pub returns-in_err-join_squares : goal.returns-in_err-join_squares
returns-in_err-join_squares g c =
    let r = c.from_residual-in_err-join_squares.result in let e = c.in_err-join_squares.field-0.0 in let said = c.from_residual-in_err-join_squares.ensures in record {
      ok = none_given r _ said.0;
      overflow = let new = c.in_ok-sum.ensures.given refl in let a = reads c.id-2.ensures new c.requires.handed in
          passed_on r e _ said.0 said.1 (overflow_as c.in_err-join_squares.field-0.0 (c.in_err-join_squares.ensures.overflow (ap value (given_told new))) (λ o p. subst (λ (t : Tree). SquareOverflows (value t) o) a p));
      room = λ gs s. let new = c.in_ok-sum.ensures.given refl in
          let free = given_free c.requires.stands c.in_ok-sum.ensures.stands c.in_ok-sum.ensures.kept new in
          let a = reads c.id-2.ensures new c.requires.handed in let none = subst (λ (u : Tree). Spans gs (value u)) (sym (given_told new)) tt in
          let number = subst (λ (u : Tree). Spans gs (value u)) (sym a) (number_spans gs _ c.requires.number s) in
          passed_on r e _ said.0 said.1 (full_as c.in_err-join_squares.field-0.0 (c.in_err-join_squares.ensures.room gs none number) (λ full few. subst (λ (n : ℕ). n < joining_need * 2 ^ length gs) (sym free) few));
      safe = after_one c.in_ok-sum.ensures.kept (behind_new (c.in_ok-sum.ensures.given refl).ends front_same) c.node.ensures.front (passed r e said.0 said.1 c.in_err-join_squares.ensures.safe);
    }

pub returns-in_err-number_of : goal.returns-in_err-number_of
returns-in_err-number_of g c = let r = c.from_residual-in_err-number_of.result in let e = fault.Full c.in_err-number_of.field-0.0 in let said = c.from_residual-in_err-number_of.ensures in record {
  ok = none_given r _ said.0;
  overflow = passed_on r e _ said.0 said.1 tt;
  room = λ gs s. let squares = gives_as c.in_ok-join_squares.ensures.ok (given_rest (c.in_ok-sum.ensures.given refl)) (λ t h. h) in
      let free = given_free c.requires.stands c.in_ok-join_squares.ensures.safe.stands (kept_after c.in_ok-sum.ensures.kept c.in_ok-join_squares.ensures.safe.kept) squares in
      passed_on r e _ said.0 said.1 (omega (arith, few_for gs (free_of c.args.pool.now) (subst (λ (n : ℕ). n < 40) (sym free) c.in_err-number_of.ensures.room)));
  safe = let sum = behind_new (c.in_ok-sum.ensures.given refl).ends front_same in after_one (kept_after c.in_ok-sum.ensures.kept c.in_ok-join_squares.ensures.safe.kept) sum (front_after_one sum c.node.ensures.front c.join_squares.ensures.safe.front) (passed_full r c.in_err-number_of.field-0.0 said.0 said.1 c.in_err-number_of.ensures.safe);
}

pub returns : goal.returns
returns g c = record {
  ok = let new = c.in_ok-sum.ensures.given refl in let squares = c.in_ok-join_squares.ensures.ok in
      let a = reads c.id-2.ensures new c.requires.handed in let v : Surd = value (tree_of c.args.a.now c.args.pool.now) in
      let same : value (tree_of c.in_ok-sum.sum c.node.new.pool) ++ square_terms (value (tree_of c.id-2.result c.node.new.pool)) ≡ square_terms v =
      λ i. value (given_told new i) ++ square_terms (value (a i)) in
      gives_as c.in_ok-number_of.ensures.ok (given_rest squares ∙ given_rest new)
      (λ t h. over_as h (Same-trans (given_told squares).worth (Same-trans (Same-eq same) (square_same v))) (λ d p. (given_told squares).parts d (shares_eq (sym same) d (square_parts v d p))));
  overflow = tt;
  room = λ a b. tt;
  safe = let sum = behind_new (c.in_ok-sum.ensures.given refl).ends front_same in after_one (kept_after c.in_ok-sum.ensures.kept c.in_ok-join_squares.ensures.safe.kept) sum (front_after_one sum c.node.ensures.front c.join_squares.ensures.safe.front) (answer_of c.in_ok-number_of.ensures.safe);
}
