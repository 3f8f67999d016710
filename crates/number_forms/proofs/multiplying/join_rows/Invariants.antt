use Rattle.number_forms.proofs.{Shared.{◌++◌, value, surd_times, Lists, tree_of, forest}, Loops.{IsJoined}, Worth.{terms_from}}
use Rattle.number_forms.proofs.multiplying.join_rows.Given as goal

abbrev pub invariant-loop-at : goal.invariant-loop-at
invariant-loop-at g l = record {
  joined : IsJoined l.sum (surd_times (terms_from l.at (value (tree_of l.a l.fn.pool))) (value (tree_of l.b l.fn.pool))) (value (tree_of l.sum l.fn.pool) ++ surd_times (value (tree_of l.a l.fn.pool)) (value (tree_of l.b l.fn.pool))) l.fn.pool l.pool;
  lists : Lists l.list l.sum (forest l.pool);
}
