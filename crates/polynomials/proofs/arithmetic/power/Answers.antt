use Rattle.polynomials.proofs.{Shared.{◌≤◌, min, length, arith, IfErr-weaker, on_ok_weaker, vec_capacity}, Causes.{caused_more}, PowerLists.{two_few}}
use Rattle.polynomials.proofs.arithmetic.power.Goals as goal

pub returns-then-exponent-le-GREATEST_EXPONENT-clause-few : goal.returns-then-exponent-le-GREATEST_EXPONENT-clause-few
returns-then-exponent-le-GREATEST_EXPONENT-clause-few c =
    on_ok_weaker c.binomial_power.result (λ h. omega (arith, h, two_few (length c.args.base.now) c.args.exponent c.if-base-eq2.true)) c.binomial_power.ensures.few

pub returns-then-exponent-le-GREATEST_EXPONENT-clause-unfit : goal.returns-then-exponent-le-GREATEST_EXPONENT-clause-unfit
returns-then-exponent-le-GREATEST_EXPONENT-clause-unfit c =
    IfErr-weaker c.binomial_power.result _ _
    (λ e. caused_more e (λ (h : min (vec_capacity c.args.list.now) (min (vec_capacity c.args.spare.now) (vec_capacity c.args.other.now)) ≤ c.args.exponent).
    omega (arith, h, two_few (length c.args.base.now) c.args.exponent c.if-base-eq2.true))) c.binomial_power.ensures.unfit
