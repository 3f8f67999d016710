use Rattle.tree_handles.specs.{Handed.{IsHanded}, Standing.{Stands, forest}}
use Rattle.tree_bench.proofs.handles.nested_sums.Given as goal

abbrev pub invariant-loop : goal.invariant-loop
invariant-loop l = Stands l.pool × IsHanded l.sum (forest l.pool)
