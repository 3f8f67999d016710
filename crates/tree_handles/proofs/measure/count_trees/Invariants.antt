use Rattle.tree_handles.proofs.Shared.{◌≡◌, ◌+◌, since, IsBoundary, arity, forest_of, forest}
use Rattle.tree_handles.proofs.measure.count_trees.Given as goal

abbrev pub invariant-loop-at : goal.invariant-loop-at
invariant-loop-at l = record {
  boundary : IsBoundary l.at l.pool.nodes;
  sum : l.trees + arity (forest_of (since l.at l.pool.nodes)) ≡ arity (forest l.pool);
}

abbrev pub decreases-loop-at : goal.decreases-loop-at
decreases-loop-at l = arity (forest_of (since l.at l.pool.nodes))
