use Rattle.tree_handles.specs.Standing.{Stands}
use Rattle.tree_bench.proofs.sums.sums.Given as goal

abbrev pub invariant-loop : goal.invariant-loop
invariant-loop g l = Stands l.pool
