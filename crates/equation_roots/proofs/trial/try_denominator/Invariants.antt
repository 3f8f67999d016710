use Rattle.std.proofs.Common.{◌≡◌, ◌≢◌, ◌≤◌, nat_abs, length}
use Rattle.calc_terms.specs.Fractions.{Fraction, zero_fraction}
use Rattle.equation_roots.specs.{Coefficients.{value}, Rationals.{rationals_of}, Told.{wholes_of}, Wholes.{Divides, fractions}}
use Rattle.equation_roots.proofs.trial.try_denominator.Given as goal

abbrev pub invariant-loop-at : goal.invariant-loop-at
invariant-loop-at l = record {
  divides : Divides (rationals_of l.initial.found) (wholes_of l.initial.left) (rationals_of l.found) (wholes_of l.left);
  none : 4 ≤ length (wholes_of l.left) → (r : Fraction) → r.den ≡ l.v → nat_abs r.num ≤ l.at → value (fractions (wholes_of l.left)) r ≢ zero_fraction;
}
