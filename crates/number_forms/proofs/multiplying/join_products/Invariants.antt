use Rattle.number_forms.proofs.{Shared.{◌++◌, ◌≤◌, map, value, term_times, term_of, Lists, tree_of, forest}, Loops.{IsJoined}, Worth.{terms_from}}
use Rattle.number_forms.proofs.multiplying.join_products.Given as goal

abbrev pub invariant-loop-at : goal.invariant-loop-at
invariant-loop-at g l = record {
  joined : IsJoined l.sum (map (term_times (term_of l.term)) (terms_from l.at (value (tree_of l.number l.fn.pool)))) (value (tree_of l.sum l.fn.pool) ++ map (term_times (term_of l.term)) (terms_from l.from (value (tree_of l.number l.fn.pool)))) l.fn.pool l.pool;
  begun : l.from ≤ l.at;
  lists : Lists l.list l.sum (forest l.pool);
}
