use Rattle.number_forms.proofs.{Shared.{◌≡◌, ℕ, ◌<◌, length, false, are_alike, term_of, nth, plain, children_of, tree_at, forest}, Children.{AreLeft}}
use Rattle.calc_algebra.specs.Numbers.{term_of as term_of_tree}
use Rattle.number_forms.proofs.joining.match_anywhere.Given as goal

abbrev pub invariant-loop-child : goal.invariant-loop-child
invariant-loop-child l = record {
  left : AreLeft 0 l.fn.sum l.yielded l.child-iterator (forest l.pool);
  place : l.at ≡ length l.yielded;
  apart : (k : ℕ) → k < l.at → are_alike (term_of l.term).radicand (term_of_tree (nth k (children_of (plain (tree_at l.fn.sum (forest l.pool)))))).radicand ≡ false;
}
