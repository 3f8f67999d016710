use Rattle.std.proofs.Common.{nat_abs, ap, ◌∙◌, arith}
use Rattle.equation_roots.specs.{Rationals.{rationals_of}, Told.{wholes_of}}
use Rattle.equation_roots.proofs.{Steps.{divides_refl, divides_trans}, Trials.{denominator_not, numerator_none, numerators_more}, Wide.{told}}
use Rattle.equation_roots.proofs.trial.try_denominator.Goals as goal
use Rattle.equation_roots.proofs.trial.try_denominator.Goals.{then-len-le3-via-then-len-le3, then-len-le3-via-else-len-le3+then-unsigned_abs-v-ne0}

pub returns-then-len-le3-clause-divides : goal.returns-then-len-le3-clause-divides
returns-then-len-le3-clause-divides c = divides_refl (rationals_of c.args.found.now) (wholes_of c.args.left.now)

pub returns-then-len-le3-clause-none : goal.returns-then-len-le3-clause-none
returns-then-len-le3-clause-none c = λ l r den num.
    elim c.then-len-le3.branch [
      | then-len-le3-via-then-len-le3 w ↦ absurd (omega (arith, l, c.len.ensures.value, w.if-len-le3.true))
      | then-len-le3-via-else-len-le3+then-unsigned_abs-v-ne0 w ↦
          denominator_not r c.args.v w.unsigned_abs.result (wholes_of c.args.left.now) (w.unsigned_abs.ensures.value ∙ ap nat_abs (told w.leading.result w.leading.ensures.fits ∙ w.leading.ensures.value))
          w.if-unsigned_abs-v-ne0.true den (omega (arith, l)) c.requires.no_zero
    ]

pub loop-at-init : goal.loop-at-init
loop-at-init c = record {
  divides = divides_refl (rationals_of c.args.found.now) (wholes_of c.args.left.now);
  none = λ l r den num. numerator_none r (wholes_of c.args.left.now) c.requires.no_zero num;
}

pub loop-at-preserved : goal.loop-at-preserved
loop-at-preserved c = record {
  divides =
      divides_trans (rationals_of c.args.found.now) (rationals_of c.loop-at.found) (rationals_of c.try_signs.new.found) (wholes_of c.args.left.now) (wholes_of c.loop-at.left) (wholes_of c.try_signs.new.left)
      c.loop-at.invariant.divides c.in_ok-try_signs.ensures.divides;
  none = λ l r den num.
      numerators_more r c.loop-at.at c.args.v (rationals_of c.loop-at.found) (rationals_of c.try_signs.new.found) (wholes_of c.loop-at.left) (wholes_of c.try_signs.new.left)
      c.in_ok-try_signs.ensures.divides c.loop-at.invariant.none c.in_ok-try_signs.ensures.none l den num;
}
