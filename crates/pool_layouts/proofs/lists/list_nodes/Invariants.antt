use Rattle.pool_layouts.proofs.Shared.{◌≡◌, ◌≤◌, ◌++◌, vec_capacity, tree_at, forest, visits_of}
use Rattle.pool_layouts.proofs.lists.list_nodes.Given as goal

abbrev pub invariant-loop-node : goal.invariant-loop-node
invariant-loop-node l = record {
  listed : l.cells.items ++ l.node-iterator ≡ visits_of (tree_at l.fn.root (forest l.fn.pool));
  capacity : vec_capacity l.fn.cells ≤ vec_capacity l.cells;
}
