use Rattle.equation_roots.proofs.Completeness.{rational_is_told}
use Rattle.equation_roots.proofs.laws.rational_roots_are_told.Goals as goal

pub returns : goal.returns
returns c = rational_is_told
