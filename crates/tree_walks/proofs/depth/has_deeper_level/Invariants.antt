use Rattle.tree_walks.proofs.{Shared.{◌≡◌, ◌+◌, ◌*◌, length, depth_in, nodes_in, tree_at, forest}, Levels.IsShallow}
use Rattle.tree_walks.proofs.depth.has_deeper_level.Given as goal

abbrev pub invariant-loop-height : goal.invariant-loop-height
invariant-loop-height l = record {
  shallow : IsShallow l.nodes l.height (depth_in (tree_at l.fn.id (forest l.fn.pool))) (nodes_in (tree_at l.fn.id (forest l.fn.pool))) l.owed;
  levels : length l.owed ≡ 65;
}

abbrev pub decreases-loop-height : goal.decreases-loop-height
decreases-loop-height l = 2 * length l.nodes + l.height
