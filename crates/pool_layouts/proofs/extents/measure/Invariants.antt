use Rattle.pool_layouts.proofs.{Shared.{◌≡◌, ◌≤◌, length, tree_at, forest, HasExtents}, Suffixes.after}
use Rattle.pool_layouts.proofs.extents.measure.Given as goal

abbrev pub invariant-loop-at : goal.invariant-loop-at
invariant-loop-at l = record {
  measured : HasExtents (after l.at (tree_at l.fn.layout (forest l.pool))) l.at l.extents;
  len : length l.extents ≡ length l.fn.extents;
  within : l.at ≤ length l.cells;
}

abbrev pub decreases-loop-at : goal.decreases-loop-at
decreases-loop-at l = l.at
