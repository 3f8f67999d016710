use Rattle.number_forms.proofs.{Shared.{◌++◌, value, Lists, tree_of, forest}, Loops.{IsJoined}, Worth.{terms_from}}
use Rattle.number_forms.proofs.adding.join_terms.Given as goal

abbrev pub invariant-loop-at : goal.invariant-loop-at
invariant-loop-at g l = record {
  joined : IsJoined l.sum (terms_from l.at (value (tree_of l.number l.fn.pool))) (value (tree_of l.sum l.fn.pool) ++ value (tree_of l.number l.fn.pool)) l.fn.pool l.pool;
  lists : Lists l.list l.sum (forest l.pool);
}
