use Rattle.polynomials.proofs.{Shared.{◌≡◌, arith, ℕ, subst}, GreatestExponents.{PassedTo, passed_all, passed_more}}
use Rattle.polynomials.specs.Packed.{monomial_of}
use Rattle.polynomials.proofs.degrees.greatest_exponent.Goals as goal

pub loop-place-init : goal.loop-place-init
loop-place-init c = λ e a p. p

pub loop-place-preserved : goal.loop-place-preserved
loop-place-preserved c = passed_more 8 c.loop-place.place c.loop-place.greatest c.max-greatest.result c.loop-place.rest c.args.monomial c.loop-place-test.true c.loop-place.invariant c.max-greatest.ensures

pub returns : goal.returns
unfolding monomial_of
returns c =
    let e : c.loop-place.place ≡ 8 = omega arith in
    passed_all 8 c.loop-place.greatest c.loop-place.rest c.args.monomial (subst (λ (i : ℕ). PassedTo 8 i c.loop-place.greatest c.loop-place.rest c.args.monomial) e c.loop-place.invariant)
