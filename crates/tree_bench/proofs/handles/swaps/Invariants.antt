use Rattle.tree_bench.proofs.Shared.{◌≡◌, true, has_root, Stands, forest}
use Rattle.tree_bench.proofs.handles.swaps.Given as goal

abbrev pub invariant-loop : goal.invariant-loop
invariant-loop g l = Stands l.pool × (has_root l.sum (forest l.pool) ≡ true)
