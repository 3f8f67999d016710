use Rattle.number_forms.proofs.{Shared.{◌≡◌, length, are_terms, trees_from, plain, children_of, tree_at, forest}, Children.{AreLeft}}
use Rattle.number_forms.proofs.recognize.are_terms.Given as goal

abbrev pub invariant-loop-child : goal.invariant-loop-child
invariant-loop-child l = record {
  left : AreLeft 0 l.fn.id l.yielded l.child-iterator (forest l.pool);
  terms : are_terms (trees_from (length l.yielded) (children_of (plain (tree_at l.fn.id (forest l.pool))))) ≡ are_terms (children_of (plain (tree_at l.fn.id (forest l.pool))));
}
