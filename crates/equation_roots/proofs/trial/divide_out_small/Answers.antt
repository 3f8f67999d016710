use Rattle.std.proofs.Common.{Bool, List, false, get_or, ap, sym, ◌∙◌}
use Rattle.equation_roots.specs.{Rationals.{rationals_of}, Told.{wholes_of}}
use Rattle.equation_roots.proofs.{Steps.{divides_refl, divides_trans}, Trials.{denominator_none, denominators_more, no_root_kept, unmarked_none}, Wide.{handed, told}}
use Rattle.equation_roots.proofs.trial.divide_out_small.Goals as goal

pub loop-step-init : goal.loop-step-init
loop-step-init c = record {
  divides = divides_refl (rationals_of c.args.found.now) (wholes_of c.args.left.now);
  none = λ l r num den. absurd (denominator_none r den);
}

pub try_denominator-requires-clause-marked : goal.try_denominator-requires-clause-marked
try_denominator-requires-clause-marked c = λ r n h num f.
    no_root_kept r (rationals_of c.args.found.now) (rationals_of c.loop-step.found) (wholes_of c.args.left.now) (wholes_of c.loop-step.left) c.loop-step.invariant.divides
    (unmarked_none c.small_divisors-divisors.result.items (wholes_of c.args.left.now) (handed c.get.result) r n (told c.get.result c.get.ensures.fits ∙ c.get.ensures.value) c.small_divisors-divisors.ensures h num
    (ap (λ (xs : List Bool). get_or xs n false) (sym c.as_slice.ensures.value) ∙ f))

pub loop-step-preserved : goal.loop-step-preserved
loop-step-preserved c = record {
  divides =
      divides_trans (rationals_of c.args.found.now) (rationals_of c.loop-step.found) (rationals_of c.try_denominator.new.found) (wholes_of c.args.left.now) (wholes_of c.loop-step.left) (wholes_of c.try_denominator.new.left)
      c.loop-step.invariant.divides c.in_ok-try_denominator.ensures.divides;
  none = λ l r num den.
      denominators_more r c.loop-step.step (rationals_of c.loop-step.found) (rationals_of c.try_denominator.new.found) (wholes_of c.loop-step.left) (wholes_of c.try_denominator.new.left)
      c.in_ok-try_denominator.ensures.divides c.loop-step.invariant.none c.in_ok-try_denominator.ensures.none l num den;
}
