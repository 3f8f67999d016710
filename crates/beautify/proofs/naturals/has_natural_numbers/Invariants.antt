use Rattle.beautify.proofs.{Shared.{has_natural_numbers, plain, tree_at, forest}, NaturalNodes.IsReading}
use Rattle.beautify.proofs.naturals.has_natural_numbers.Given as goal

abbrev pub invariant-loop-node : goal.invariant-loop-node
invariant-loop-node l = IsReading l.node-iterator (has_natural_numbers (plain (tree_at l.fn.tree (forest l.fn.pool)))) (forest l.fn.pool)
