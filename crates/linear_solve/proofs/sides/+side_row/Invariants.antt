use Rattle.linear_solve.proofs.{Shared.{map, CalmChecks, states, name_of, nodes, side_told, plain, tree_at, forest}, CheckCounts.{child_checks}, Walks.{AreMade}}
use Rattle.linear_solve.proofs.sides.+side_row.Given as goal

abbrev pub decreases-side_row : goal.decreases-side_row
decreases-side_row g l = nodes (plain (tree_at l.t (forest l.pool.now)))

abbrev pub invariant-loop-at : goal.invariant-loop-at
invariant-loop-at g l = record {
  rows : AreMade (map name_of l.names) l.kind (plain (tree_at l.t (forest l.pool))) l.at (side_told l.fits l.row);
  checks : CalmChecks (child_checks (map name_of l.names) (plain (tree_at l.t (forest l.pool))) l.at) (states g.B.Breaker.state l.fn.watch) (states g.B.Breaker.state l.watch);
}
