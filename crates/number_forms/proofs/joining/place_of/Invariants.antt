use Rattle.number_forms.proofs.Shared.{ℕ, ◌<◌, ◌≤◌, ◌-◌, count, nth, plain, children_of, tree_at, forest}
use Rattle.calc_algebra.specs.Numbers.{term_of}
use Rattle.number_forms.proofs.joining.place_of.Given as goal

abbrev pub invariant-loop-low : goal.invariant-loop-low
invariant-loop-low g l = record {
  order : l.low ≤ l.high;
  within : l.high ≤ count (children_of (plain (tree_at l.sum (forest l.pool))));
  below : (k : ℕ) → k < l.low → (term_of (nth k (children_of (plain (tree_at l.sum (forest l.pool)))))).radicand < l.radicand;
  above : l.high < count (children_of (plain (tree_at l.sum (forest l.pool)))) → l.radicand ≤ (term_of (nth l.high (children_of (plain (tree_at l.sum (forest l.pool)))))).radicand;
}

abbrev pub decreases-loop-low : goal.decreases-loop-low
decreases-loop-low g l = l.high - l.low
