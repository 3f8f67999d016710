use Rattle.number_forms.proofs.Shared.{sym, ap, ◌∙◌, subst, rules, FitsSigned, ◌+◌, ◌<◌, arith, ℤ, nat_abs, w128, to_z-of_z, pow_op, fraction_power, operation_fits, Fraction, whole_fraction}
use Rattle.number_forms.proofs.Shared.{calculated, value_of, num, root_size, size, whole_numerator, IsPlainAnswer, tree_of, behind_first, front_same, front_at, front_without, front_after}
use Rattle.number_forms.proofs.Shared.{given_told, gives_as, num_most, free_of, refused_below, passed_on, released_free, kept_after}
use Rattle.number_forms.proofs.{RationalCalls.{plain_answer, rational_power_over, rational_power, num_same}, RationalBits.{power_parts}, Rooms.{few_for}, Refusals.{none_given}}
use Rattle.number_forms.proofs.Safety.{after, answered, overflowed, refused}
use Rattle.tree_handles.specs.declared.fault.NumberFault.TheVariants as fault
use Rattle.number_forms.proofs.powers.power_rational.Goals as goal

pub returns-in_err-power : goal.returns-in_err-power
returns-in_err-power c = let r = c.from_residual.result in let e = fault.Overflow c.in_err-power.field-0.0 in let said = c.from_residual.ensures in record {
  ok = none_given r _ said.0;
  rational = search rules;
  room = λ gs. passed_on r e _ said.0 said.1 tt;
  safe = overflowed r c.in_err-power.field-0.0 said.0 said.1 (search rules) (front_at (front_without behind_first front_same) c.take_rational-q.ensures.gone) c.take_rational-q.ensures.kept c.take_rational-q.ensures.stands;
}

pub returns-in_err-number : goal.returns-in_err-number
returns-in_err-number c = let r = c.from_residual-in_err-number.result in let e = fault.Full c.in_err-number.field-0.0 in let said = c.from_residual-in_err-number.ensures in record {
  ok = none_given r _ said.0;
  rational = search rules;
  room = λ gs. let few : free_of c.take_rational-q.new.pool < root_size (num (value_of c.in_ok-power.power)) = refused_below c.in_err-number.ensures.full in
      let free = released_free c.requires.stands c.take_rational-q.ensures.stands c.take_rational-q.ensures.kept c.requires.handed c.take_rational-q.ensures.gone in
      passed_on r e _ said.0 said.1 (let least : free_of c.args.pool.now + size (tree_of c.args.a c.args.pool.now) < 40 = omega (arith, few, free, num_most (value_of c.in_ok-power.power)) in omega (arith, few_for gs _ least));
  safe = after c.take_rational-q.ensures.kept (front_at (front_without behind_first front_same) c.take_rational-q.ensures.gone) (refused r c.in_err-number.field-0.0 said.0 said.1 c.in_err-number.ensures.full c.number.ensures.stands);
}

pub returns : goal.returns
returns c = record {
  ok = let fits : FitsSigned w128 c.args.n = search rules in gives_as c.in_ok-number.ensures.given c.take_rational-q.ensures.gone
      (λ t e. rational_power_over _ _ t _ (nat_abs c.args.n) (c.in_ok-power.ensures.power ∙ ap (λ (z : ℤ). fraction_power (value_of c.take_rational-q.result) (nat_abs z)) (to_z-of_z w128 c.args.n fits)) e (rational_power _ (nat_abs c.args.n) (tree_of c.args.a c.args.pool.now) c.take_rational-q.ensures.value)
      (power_parts _ (nat_abs c.args.n) (tree_of c.args.a c.args.pool.now) c.take_rational-q.ensures.value));
  rational = λ q e. let r = value_of c.take_rational-q.result in
      let t = tree_of c.in_ok-number.field-0 c.number.new.pool in let fits : FitsSigned w128 c.args.n = search rules in
      let same = to_z-of_z w128 c.args.n fits in
      subst (λ (x : Fraction). IsPlainAnswer (calculated pow_op x (whole_fraction c.args.n)) t) (num_same (sym c.take_rational-q.ensures.value ∙ e))
      (plain_answer pow_op r (whole_fraction c.args.n) t (λ f. cc (c.in_ok-power.ensures.refused.1 (ap (λ (z : ℤ). operation_fits pow_op r (whole_fraction z)) same ∙ f)))
      (given_told c.in_ok-number.ensures.given ∙ ap num (c.in_ok-power.ensures.power ∙ ap (λ (z : ℤ). fraction_power r (nat_abs z)) (same ∙ sym (whole_numerator c.args.n)))));
  room = λ a. tt;
  safe = answered (front_after (front_at (front_without behind_first front_same) c.take_rational-q.ensures.gone) c.number.ensures.front) (kept_after c.take_rational-q.ensures.kept c.in_ok-number.ensures.kept) c.number.ensures.stands;
}
