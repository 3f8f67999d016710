use Rattle.tree_bench.proofs.Shared.{◌≡◌, Stands, forest}
use Rattle.tree_bench.proofs.handles.copies.Given as goal

abbrev pub invariant-loop : goal.invariant-loop
invariant-loop g l = Stands l.pool × (forest l.pool ≡ forest l.fn.pool)
