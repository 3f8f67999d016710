use Rattle.pool_layouts.proofs.Shared.{arith}
use Rattle.pool_layouts.proofs.laws.base_row_is_within.Goals as goal

pub returns : goal.returns
returns c = λ l. omega arith
