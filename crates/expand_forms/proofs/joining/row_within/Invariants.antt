use Rattle.expand_forms.proofs.{Shared.{◌++◌, value_of, Lists, polynomial_of, row, plain, tree_of, tree_at, without_root, forest}, JoinLoops.{IsJoined}}
use Rattle.expand_forms.proofs.joining.row_within.Given as goal

abbrev pub invariant-loop-at : goal.invariant-loop-at
invariant-loop-at g l = record {
  lists : Lists l.list l.sum (forest l.pool);
  joined : IsJoined l.sum (row (value_of l.factor) (plain (tree_at l.term (without_root l.sum (forest l.fn.pool)))) l.at (plain (tree_at l.b (without_root l.sum (forest l.fn.pool)))))
      (row (value_of l.factor) (plain (tree_at l.term (without_root l.sum (forest l.fn.pool)))) 0 (plain (tree_at l.b (without_root l.sum (forest l.fn.pool)))) ++ polynomial_of
      (tree_of l.sum l.fn.pool)) l.fn.pool l.pool;
}
