use Rattle.number_forms.proofs.{Shared.{◌≡◌, ◌+◌, length, is_below_all, terms_of, trees_from, term_of, plain, children_of, tree_at, forest}, Children.{AreLeft}}
use Rattle.number_forms.proofs.recognize.is_below_rest.Given as goal

abbrev pub invariant-loop-child : goal.invariant-loop-child
invariant-loop-child l =
    let ts = children_of (plain (tree_at l.fn.id (forest l.pool))) in
    record {
      left : AreLeft l.fn.from l.fn.id l.yielded l.child-iterator (forest l.pool);
      below : is_below_all (term_of l.term) (terms_of (trees_from (l.fn.from + length l.yielded) ts)) ≡ is_below_all (term_of l.term) (terms_of (trees_from l.fn.from ts));
    }
