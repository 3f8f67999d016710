use Rattle.linear_solve.proofs.{Shared.{◌≡◌, drop, nodes, name_where_linear, plain, children_of, tree_at, forest}, LinearNodes.{asked}, TreeLists.{listed}}
use Rattle.linear_solve.proofs.linear.+name_where_linear.Given as goal

abbrev pub decreases-name_where_linear : goal.decreases-name_where_linear
decreases-name_where_linear l = nodes (plain (tree_at l.t (forest l.pool.now)))

abbrev pub invariant-loop-at : goal.invariant-loop-at
invariant-loop-at l = asked l.kind l.named (drop l.at (listed (children_of (plain (tree_at l.t (forest l.pool)))))) ≡ name_where_linear (plain (tree_at l.t (forest l.pool)))
