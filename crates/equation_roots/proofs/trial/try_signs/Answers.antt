use Rattle.std.proofs.Common.{ℕ, neg_ℤ, nat_abs, ap, subst, ◌∙◌}
use Rattle.std.specs.Int.{IsGcd}
use Rattle.equation_roots.specs.{Rationals.{rationals_of}, Told.{wholes_of}}
use Rattle.equation_roots.proofs.{Steps.{divides_refl, divides_trans}, Trials.{candidate, shares_nothing, signs_none}, Wide.{abs_neg, handed, told}}
use Rattle.equation_roots.proofs.trial.try_signs.Goals as goal
use Rattle.equation_roots.proofs.trial.try_signs.Goals.{then-not-marked-via-then-not-marked, then-not-marked-via-else-not-marked+then-gcd-ne1}

pub returns-then-not-marked-clause-divides : goal.returns-then-not-marked-clause-divides
returns-then-not-marked-clause-divides c = divides_refl (rationals_of c.args.found.now) (wholes_of c.args.left.now)

pub returns-then-not-marked-clause-none : goal.returns-then-not-marked-clause-none
returns-then-not-marked-clause-none c = λ l r den num.
    elim c.then-not-marked.branch [
      | then-not-marked-via-then-not-marked w ↦ c.requires.marked w.if-not-marked.true r num
      | then-not-marked-via-else-not-marked+then-gcd-ne1 w ↦ absurd (w.if-gcd-ne1.true (shares_nothing r c.args.u c.args.v w.gcd.result den num w.gcd.ensures))
    ]

pub divide_out-requires-clause-candidate : goal.divide_out-requires-clause-candidate
divide_out-requires-clause-candidate c =
    candidate (handed c.whole-numerator.result) (handed c.whole-denominator.result) c.args.u c.args.v
    (ap nat_abs (told c.whole-numerator.result c.whole-numerator.ensures.fits ∙ c.whole-numerator.ensures.value))
    (told c.whole-denominator.result c.whole-denominator.ensures.fits ∙ c.whole-denominator.ensures.value)
    c.requires.numerator.0 c.requires.numerator.1 c.requires.denominator.0 c.requires.denominator.1 (subst (λ (g : ℕ). IsGcd c.args.u c.args.v g) c.if-gcd-ne1.false c.gcd.ensures)

pub divide_out-requires-2-clause-candidate : goal.divide_out-requires-2-clause-candidate
divide_out-requires-2-clause-candidate c =
    candidate (handed c.opposite.result) (handed c.whole-denominator.result) c.args.u c.args.v
    (ap nat_abs (told c.opposite.result c.opposite.ensures.fits ∙ c.opposite.ensures.value) ∙ abs_neg (handed c.whole-numerator.result) ∙ ap nat_abs (told c.whole-numerator.result c.whole-numerator.ensures.fits ∙ c.whole-numerator.ensures.value))
    (told c.whole-denominator.result c.whole-denominator.ensures.fits ∙ c.whole-denominator.ensures.value)
    c.requires.numerator.0 c.requires.numerator.1 c.requires.denominator.0 c.requires.denominator.1 (subst (λ (g : ℕ). IsGcd c.args.u c.args.v g) c.if-gcd-ne1.false c.gcd.ensures)

pub returns-clause-divides : goal.returns-clause-divides
returns-clause-divides c =
    divides_trans (rationals_of c.args.found.now) (rationals_of c.divide_out.new.found) (rationals_of c.divide_out-2.new.found) (wholes_of c.args.left.now) (wholes_of c.divide_out.new.left) (wholes_of c.divide_out-2.new.left)
    c.in_ok-divide_out.ensures.divides c.in_ok-divide_out-2.ensures.divides

pub returns-clause-none : goal.returns-clause-none
returns-clause-none c = λ l r den num.
    signs_none r (handed c.whole-numerator.result) (handed c.whole-denominator.result) (handed c.opposite.result) (handed c.whole-denominator.result) c.args.u c.args.v
    (rationals_of c.divide_out.new.found) (rationals_of c.divide_out-2.new.found) (wholes_of c.divide_out.new.left) (wholes_of c.divide_out-2.new.left)
    (told c.whole-numerator.result c.whole-numerator.ensures.fits ∙ c.whole-numerator.ensures.value)
    (told c.whole-denominator.result c.whole-denominator.ensures.fits ∙ c.whole-denominator.ensures.value)
    (told c.opposite.result c.opposite.ensures.fits ∙ c.opposite.ensures.value ∙ ap neg_ℤ (told c.whole-numerator.result c.whole-numerator.ensures.fits ∙ c.whole-numerator.ensures.value))
    (told c.whole-denominator.result c.whole-denominator.ensures.fits ∙ c.whole-denominator.ensures.value)
    c.in_ok-divide_out-2.ensures.divides c.in_ok-divide_out.ensures.none c.in_ok-divide_out-2.ensures.none l den num
