use Rattle.polynomials.proofs.GreatestExponents.{PassedTo}
use Rattle.polynomials.proofs.degrees.greatest_exponent.Given as goal

abbrev pub invariant-loop-place : goal.invariant-loop-place
invariant-loop-place l = PassedTo 8 l.place l.greatest l.rest l.fn.monomial
