use Rattle.tree_handles.proofs.{Shared.{◌≡◌, ◌+◌, ◌*◌, length, nodes_in, depth_in, tree_at, forest}, Depths.IsWalked}
use Rattle.tree_handles.proofs.measure.tree_depth.Given as goal

abbrev pub invariant-loop-height : goal.invariant-loop-height
invariant-loop-height l = record {
  walked : IsWalked l.nodes l.height l.deepest (depth_in (tree_at l.fn.id (forest l.fn.pool))) (nodes_in (tree_at l.fn.id (forest l.fn.pool))) l.owed;
  levels : length l.owed ≡ 65536;
}

abbrev pub decreases-loop-height : goal.decreases-loop-height
decreases-loop-height l = 2 * length l.nodes + l.height
