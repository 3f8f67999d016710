use Rattle.sum_reduce.proofs.Shared.{ℕ, ◌<◌, [], ◌∷◌, Trees, count, tree_of, KeepsFront, nth, Forest, Stands, forest, KeepsRefusals, IsJoining, Takes, terms_in, removed}
use Rattle.sum_reduce.proofs.joining.add_partners.Given as goal

abbrev pub invariant-loop-pool : goal.invariant-loop-pool
invariant-loop-pool l = record {
  takes : (f : Forest) → Takes l.sum f (forest l.fn.pool) l.fn.coefficient → Takes l.sum f (forest l.pool) l.total;
  within : l.at < count (terms_in l.sum (forest l.pool));
  joining : (ts : Trees) (less : ℕ) → IsJoining ts (tree_of l.fn.coefficient l.fn.pool) (nth l.at (terms_in l.sum (forest l.fn.pool))) (removed l.at (terms_in l.sum (forest l.fn.pool))) less
      → IsJoining ts (tree_of l.total l.pool) (nth l.at (terms_in l.sum (forest l.pool))) (removed l.at (terms_in l.sum (forest l.pool))) less;
  front : KeepsFront (l.sum ∷ l.fn.coefficient ∷ []) (forest l.fn.pool) (forest l.pool);
  kept : KeepsRefusals l.fn.pool l.pool;
  stands : Stands l.pool;
}

abbrev pub decreases-loop-pool : goal.decreases-loop-pool
decreases-loop-pool l = count (terms_in l.sum (forest l.pool))
