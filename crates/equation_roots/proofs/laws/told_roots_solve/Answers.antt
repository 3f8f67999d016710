use Rattle.equation_roots.proofs.Completeness.{told_solves}
use Rattle.equation_roots.proofs.laws.told_roots_solve.Goals as goal

pub returns : goal.returns
returns c = told_solves
