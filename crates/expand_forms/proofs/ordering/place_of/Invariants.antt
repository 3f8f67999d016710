use Rattle.expand_forms.proofs.Shared.{◌≡◌, ℕ, ◌<◌, ◌≤◌, ◌-◌, Greater, Less, Tree, count, Monomial, HasMonomial, term_cmp, nth, plain, children_of, tree_at, forest}
use Rattle.expand_forms.proofs.ordering.place_of.Given as goal

abbrev pub invariant-loop-low : goal.invariant-loop-low
invariant-loop-low g l = record {
  order : l.low ≤ l.high;
  within : l.high ≤ count (children_of (plain (tree_at l.sum (forest l.pool))));
  below : (m : Monomial) (t : Tree) → HasMonomial m (plain (tree_at l.fn.product (forest l.pool))) → HasMonomial m t → (k : ℕ) → k < l.low
      → term_cmp (nth k (children_of (plain (tree_at l.sum (forest l.pool))))) t ≡ Less;
  above : (m : Monomial) (t : Tree) → HasMonomial m (plain (tree_at l.fn.product (forest l.pool))) → HasMonomial m t
      → l.high < count (children_of (plain (tree_at l.sum (forest l.pool)))) → term_cmp (nth l.high (children_of (plain (tree_at l.sum (forest l.pool))))) t ≡ Greater;
}

abbrev pub decreases-loop-low : goal.decreases-loop-low
decreases-loop-low g l = l.high - l.low
