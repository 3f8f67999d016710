use Rattle.expand_forms.proofs.{Shared.{◌+◌, ◌-◌, [], drop, BeginsWith, Monomial, HasMonomial, plain, KeepsFront, tree_at, KeepsRefusals, Stands, forest}, Merged.{IsMerged}}
use Rattle.expand_forms.proofs.merging.place_factors.Given as goal

abbrev pub invariant-loop-next : goal.invariant-loop-next
invariant-loop-next l = record {
  first : (m : Monomial) → HasMonomial m (plain (tree_at l.s (forest l.pool))) → BeginsWith l.first (drop l.i m);
  second : (n : Monomial) → HasMonomial n (plain (tree_at l.t (forest l.pool))) → BeginsWith l.second (drop l.j n);
  merged : (m n : Monomial) → HasMonomial m (plain (tree_at l.s (forest l.fn.pool))) → HasMonomial n (plain (tree_at l.t (forest l.fn.pool)))
      → IsMerged m n l.i l.j l.many (forest l.fn.pool) (forest l.pool);
  front : KeepsFront [] (forest l.fn.pool) (forest l.pool);
  kept : KeepsRefusals l.fn.pool l.pool;
  stands : Stands l.pool;
}

abbrev pub decreases-loop-next : goal.decreases-loop-next
decreases-loop-next l = (l.left.count + l.right.count) - (l.i + l.j)
