use Rattle.reduce_walk.proofs.{Shared.{◌≡◌, states, count, nodes, children_of, tree_of, Stands, forest, KeepsRefusals}, Walks.{IsWalked}}
use Rattle.reduce_walk.proofs.walking.+walk_last.Given as goal

abbrev pub decreases-walk_last : goal.decreases-walk_last
decreases-walk_last g l = nodes (tree_of l.tree l.pool.now)

abbrev pub invariant-loop-at : goal.invariant-loop-at
invariant-loop-at g l = record {
  many : l.count ≡ count (children_of (tree_of l.fn.tree l.fn.pool));
  stands : Stands l.pool;
  kept : KeepsRefusals l.fn.pool l.pool;
  walked : IsWalked g.S.NodeStep.answers l.tree l.leaves l._at (forest l.fn.pool) (forest l.pool) (states g.B.Breaker.state l.fn.watch) (states g.B.Breaker.state l.watch);
}
