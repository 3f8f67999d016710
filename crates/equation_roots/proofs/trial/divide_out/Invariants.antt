use Rattle.std.proofs.Common.{length}
use Rattle.equation_roots.specs.{Rationals.{rationals_of}, Told.{wholes_of}, Wholes.{Divides}}
use Rattle.equation_roots.proofs.trial.divide_out.Given as goal

abbrev pub invariant-divisions : goal.invariant-divisions
invariant-divisions l = Divides (rationals_of l.initial.found) (wholes_of l.initial.left) (rationals_of l.found) (wholes_of l.left)

abbrev pub decreases-divisions : goal.decreases-divisions
decreases-divisions l = length (wholes_of l.left)
