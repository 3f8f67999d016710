use Rattle.number_forms.proofs.{Shared.{◌++◌, value, Lists, square_terms, tree_of, forest}, Loops.{IsJoined}, Worth.{terms_from}}
use Rattle.number_forms.proofs.squaring.join_squares.Given as goal

abbrev pub invariant-loop-at : goal.invariant-loop-at
invariant-loop-at g l = record {
  joined : IsJoined l.sum (square_terms (terms_from l.at (value (tree_of l.number l.fn.pool)))) (value (tree_of l.sum l.fn.pool) ++ square_terms (value (tree_of l.number l.fn.pool))) l.fn.pool l.pool;
  lists : Lists l.list l.sum (forest l.pool);
}
