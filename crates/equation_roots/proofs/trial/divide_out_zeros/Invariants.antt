use Rattle.std.proofs.Common.{◌≤◌, length}
use Rattle.equation_roots.specs.{Rationals.{rationals_of}, Sizes.{mass_of}, Told.{wholes_of}, Wholes.{Divides}}
use Rattle.equation_roots.proofs.trial.divide_out_zeros.Given as goal

abbrev pub invariant-zeros : goal.invariant-zeros
invariant-zeros l = record {
  some : 1 ≤ length (wholes_of l.left);
  lighter : mass_of (wholes_of l.left) ≤ mass_of (wholes_of l.initial.left);
  divides : Divides (rationals_of l.initial.found) (wholes_of l.initial.left) (rationals_of l.found) (wholes_of l.left);
}

abbrev pub decreases-zeros : goal.decreases-zeros
decreases-zeros l = length (wholes_of l.left)
