use Rattle.pool_checkpoints.proofs.Nesting.{marks_nest}
use Rattle.pool_checkpoints.proofs.laws.marks_nest.Goals as goal

pub returns : goal.returns
returns c = marks_nest
