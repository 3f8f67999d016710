use Rattle.number_forms.proofs.Shared.{Ok, ap, ◌∙◌, ◌<◌, arith, num, root_size, tree_of, given_told, gives_as, num_most, value_of, free_of, both_released_free, refused_below, passed_on, operation}
use Rattle.number_forms.proofs.{Shared.{front_after, kept_after, rules, refl, subst, sym}, RationalCalls.{plain_answer, joint_rational, at_rationals, rational_over}, RationalBits.{joint_parts}}
use Rattle.number_forms.proofs.{Rooms.{few_for_joint}, Refusals.{none_given}, Safety.{after, answered, overflowed, refused}}
use Rattle.tree_handles.specs.Causes.{Overflows}
use Rattle.tree_handles.specs.declared.fault.NumberFault.TheVariants as fault
use Rattle.number_forms.proofs.calculating.calculate_rationals.Goals as goal

pub returns-in_err-answer : goal.returns-in_err-answer
returns-in_err-answer c = let r = c.from_residual.result in let e = fault.Overflow c.in_err-answer.field-0.0 in let said = c.from_residual.ensures in record {
  ok = none_given r _ said.0;
  rationals = search rules;
  room = λ gs. passed_on r e _ said.0 said.1 tt;
  safe = overflowed r c.in_err-answer.field-0.0 said.0 said.1 (subst Overflows (sym c.in_err-answer.ensures.named) (c.in_err-answer.ensures.refused.0 refl)) c.take_rationals.ensures.front c.take_rationals.ensures.kept c.take_rationals.ensures.stands;
}

pub returns-in_err-number : goal.returns-in_err-number
returns-in_err-number c = let r = c.from_residual-in_err-number.result in let e = fault.Full c.in_err-number.field-0.0 in let said = c.from_residual-in_err-number.ensures in record {
  ok = none_given r _ said.0;
  rationals = search rules;
  room = λ gs. let few : free_of c.take_rationals.new.pool < root_size (num (value_of c.in_ok-answer.answer)) = refused_below c.in_err-number.ensures.full in
      let taken = c.take_rationals.ensures in
      let free = both_released_free c.requires.stands taken.stands taken.kept c.requires.apart c.requires.first c.requires.second taken.gone in
      passed_on r e _ said.0 said.1 (few_for_joint c.args.joint gs _ (omega (arith, few, free, num_most (value_of c.in_ok-answer.answer))));
  safe = after c.take_rationals.ensures.kept c.take_rationals.ensures.front (refused r c.in_err-number.field-0.0 said.0 said.1 c.in_err-number.ensures.full c.number.ensures.stands);
}

pub returns : goal.returns
returns c = record {
  ok = let a = tree_of c.args.a c.args.pool.now in let b = tree_of c.args.b c.args.pool.now in let taken = c.take_rationals.ensures in
      gives_as c.in_ok-number.ensures.given taken.gone
      (λ t e. rational_over _ _ t _ c.in_ok-answer.ensures.ok e (joint_rational c.args.joint _ _ a b taken.first taken.second) (joint_parts c.args.joint _ _ a b taken.first taken.second));
  rationals = λ p q k l. let op = operation c.args.joint in
      let taken = c.take_rationals.ensures in let told = given_told c.in_ok-number.ensures.given ∙ ap num c.in_ok-answer.ensures.ok in
      at_rationals op p q _ _ (tree_of c.args.a c.args.pool.now) (tree_of c.args.b c.args.pool.now) c.number.new.pool (Ok c.in_ok-number.field-0) taken.first taken.second
      (plain_answer op _ _ (tree_of c.in_ok-number.field-0 c.number.new.pool) (λ f. cc (c.in_ok-answer.ensures.refused.1 f)) told) k l;
  room = λ a. tt;
  safe = answered (front_after c.take_rationals.ensures.front c.number.ensures.front) (kept_after c.take_rationals.ensures.kept c.in_ok-number.ensures.kept) c.number.ensures.stands;
}
