use Rattle.std.proofs.Common.{◌≢◌, ◌≤◌, nat_abs, length}
use Rattle.calc_terms.specs.Fractions.{Fraction, zero_fraction}
use Rattle.equation_roots.specs.{Coefficients.{value}, Rationals.{rationals_of}, Told.{wholes_of}, Wholes.{Divides, fractions}}
use Rattle.equation_roots.proofs.trial.divide_out_small.Given as goal

abbrev pub invariant-loop-step : goal.invariant-loop-step
invariant-loop-step l = record {
  divides : Divides (rationals_of l.initial.found) (wholes_of l.initial.left) (rationals_of l.found) (wholes_of l.left);
  none : 4 ≤ length (wholes_of l.left) → (r : Fraction) → nat_abs r.num ≤ 1000 → r.den ≤ l.step → value (fractions (wholes_of l.left)) r ≢ zero_fraction;
}
