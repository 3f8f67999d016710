use Rattle.power_reduce.proofs.Shared.{arith, sym, ap, ◌∙◌, subst, IfOk, IsNumberPower, told, IfDone, root_kind, tree_of, base_in, passed_on, full_as, exponent_in, is_whole_num, none_given, none_kept}
use Rattle.power_reduce.proofs.{Shared.{IsCaused, Faults}, Cases.{no_num_kind, no_rational, number_kept, rational_number, step_fault}, Whole.{whole_is}}
use Rattle.power_reduce.proofs.step.whole_power.Goals as goal

pub kind-requires-clause-live : goal.kind-requires-clause-live
kind-requires-clause-live c = c.base_id-base.ensures.expression.live

pub rational-q-requires-clause-live : goal.rational-q-requires-clause-live
rational-q-requires-clause-live c = c.base_id-base.ensures.expression.live

pub rational_power-requires-clause-base : goal.rational_power-requires-clause-base
rational_power-requires-clause-base c = sym c.base_id-base.ensures.tree ∙ c.rational-q.ensures.plain

pub returns-in_ok-answer-in-Num-clause-ok : goal.returns-in_ok-answer-in-Num-clause-ok
returns-in_ok-answer-in-Num-clause-ok c = (number_kept (base_in (tree_of c.args.power c.args.pool.now)) (exponent_in (tree_of c.args.power c.args.pool.now)) (rational_number _ _ (sym c.base_id-base.ensures.tree ∙ c.rational-q.ensures.plain)) (ap is_whole_num c.requires.exponent ∙ whole_is c.args.n), c.in_ok-answer-in-Num.ensures.ok)

pub returns-in_ok-answer-in-Num-clause-rationals : goal.returns-in_ok-answer-in-Num-clause-rationals
returns-in_ok-answer-in-Num-clause-rationals c = λ b e. c.in_ok-answer-in-Num.ensures.rationals

pub returns-in_err-answer-in-Num : goal.returns-in_err-answer-in-Num
returns-in_err-answer-in-Num c = record {
  ok = none_given c.from_residual.result _ c.from_residual.ensures.0;
  rationals = λ b e. step_fault _ c.rational_power.new.pool c.in_err-answer-in-Num.field-0.0 _ c.from_residual.ensures.1 c.in_err-answer-in-Num.ensures.rationals;
  overflow = passed_on c.from_residual.result c.in_err-answer-in-Num.field-0.0 _ c.from_residual.ensures.0 c.from_residual.ensures.1 c.in_err-answer-in-Num.ensures.overflow;
  front = c.rational_power.ensures.front;
  kept = none_kept c.from_residual.result _ c.from_residual.ensures.0;
  faults = passed_on c.from_residual.result c.in_err-answer-in-Num.field-0.0 (Faults c.args.pool.now c.rational_power.new.pool) c.from_residual.ensures.0 c.from_residual.ensures.1 c.in_err-answer-in-Num.ensures.faults;
  caused = passed_on c.from_residual.result c.in_err-answer-in-Num.field-0.0 (IsCaused c.rational_power.new.pool) c.from_residual.ensures.0 c.from_residual.ensures.1 c.in_err-answer-in-Num.ensures.caused;
  room = grind (arith, passed_on, full_as);
  held = λ m. none_given c.from_residual.result _ c.from_residual.ensures.0;
  stands = c.rational_power.ensures.stands;
}

pub whole_power_of_other-requires-clause-base : goal.whole_power_of_other-requires-clause-base
whole_power_of_other-requires-clause-base c = no_num_kind _ (λ e. c.in_default.not-Num ((c.kind.ensures.plain c.base_id-base.ensures.expression ∙ ap root_kind c.base_id-base.ensures.tree) ∙ sym e))

pub returns-in_default-clause-rationals : goal.returns-in_default-clause-rationals
returns-in_default-clause-rationals c = λ b e. no_rational _ b (no_num_kind (base_in (tree_of c.args.power c.args.pool.now)) (λ x. c.in_default.not-Num ((c.kind.ensures.plain c.base_id-base.ensures.expression ∙ ap root_kind c.base_id-base.ensures.tree) ∙ sym x)))

pub returns-in_default-clause-held : goal.returns-in_default-clause-held
returns-in_default-clause-held c = λ m.
    subst (λ z. IfOk c.whole_power_of_other.result (λ s. IfDone s (λ h. IsNumberPower z (base_in (tree_of c.args.power c.args.pool.now)) (tree_of h c.whole_power_of_other.new.pool)))) (told c.args.n c.requires.fits) (c.whole_power_of_other.ensures.held m)

pub returns-in_ok-answer-in-Num-clause-held : goal.returns-in_ok-answer-in-Num-clause-held
returns-in_ok-answer-in-Num-clause-held c = λ m.
    subst (λ z. IsNumberPower z (base_in (tree_of c.args.power c.args.pool.now)) (tree_of c.in_ok-answer-in-Num.answer c.rational_power.new.pool)) (told c.args.n c.requires.fits) c.in_ok-answer-in-Num.ensures.held
