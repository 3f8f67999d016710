use Rattle.pool_checkpoints.proofs.Restoring.{pools_are_restored}
use Rattle.pool_checkpoints.proofs.laws.pools_are_restored.Goals as goal

pub returns : goal.returns
returns c = pools_are_restored
