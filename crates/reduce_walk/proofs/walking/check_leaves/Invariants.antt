use Rattle.reduce_walk.proofs.Shared.{◌≡◌, length, CalmChecks, states, BeginWithLeaves, plain, children_of, rest_trees, tree_at, kids_of, forest, visits_of}
use Rattle.reduce_walk.proofs.walking.check_leaves.Given as goal

abbrev pub invariant-loop-node : goal.invariant-loop-node
invariant-loop-node g l = record {
  visits : l.node-iterator ≡ visits_of (rest_trees (length l.yielded) (kids_of l.fn.id (forest l.pool)));
  counted : l.leaves ≡ length l.yielded;
  leaves : BeginWithLeaves (length l.yielded) (children_of (plain (tree_at l.fn.id (forest l.pool))));
  calm : CalmChecks (length l.yielded) (states g.B.Breaker.state l.fn.watch) (states g.B.Breaker.state l.watch);
}
