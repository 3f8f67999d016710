use Rattle.tree_bench.proofs.Shared.{◌≡◌, true, is_number, Gives, Stands, forest}
use Rattle.tree_bench.proofs.numbers.roots.Given as goal

abbrev pub invariant-loop-prime : goal.invariant-loop-prime
invariant-loop-prime l = Stands l.pool × Gives (forest l.fn.pool) (forest l.pool) l.sum (λ t. is_number t ≡ true)
