use Rattle.tree_bench.proofs.Shared.{◌≡◌, ◌≤◌, true, count, are_reduced, Stands, forest, IsSum, terms_in}
use Rattle.tree_bench.proofs.sums.sum_of_names.Given as goal

abbrev pub invariant-loop-number : goal.invariant-loop-number
invariant-loop-number l = record {
  sum : IsSum l.sum (forest l.pool);
  reduced : are_reduced (terms_in l.sum (forest l.pool)) ≡ true;
  many : l.number ≤ count (terms_in l.sum (forest l.pool));
  stands : Stands l.pool;
}
