use Rattle.pool_layouts.proofs.{Shared.{◌≡◌, Forest, arity, HasSmall}, RowExtents.IsGathering}
use Rattle.pool_layouts.proofs.extents.row_extent.Given as goal

abbrev pub invariant-loop : goal.invariant-loop
invariant-loop l = (k : Forest) → HasSmall k l.fn.first l.fn.extents → l.fn.parts ≡ arity k → IsGathering k l.counter l.at l.extents l.row
