use Rattle.sum_reduce.proofs.Shared.{◌≡◌, true, [], ◌∷◌, plain_value, add, are_rationals, KeepsFront, Stands, forest, KeepsRefusals, IsArranged, IsFolded, IsStage, widths, Changes, terms_in}
use Rattle.sum_reduce.proofs.arranging.settle.Given as goal

abbrev pub invariant-loop-at : goal.invariant-loop-at
invariant-loop-at l = record {
  changes : Changes l.sum (forest l.fn.pool) (forest l.pool);
  stage : IsStage (terms_in l.sum (forest l.fn.pool)) (terms_in l.sum (forest l.pool));
  arranged : IsArranged (terms_in l.sum (forest l.pool));
  folded : are_rationals (terms_in l.sum (forest l.fn.pool)) ≡ true → IsFolded (plain_value (add (terms_in l.sum (forest l.fn.pool)))) (terms_in l.sum (forest l.pool));
  front : KeepsFront (l.sum ∷ []) (forest l.fn.pool) (forest l.pool);
  kept : KeepsRefusals l.fn.pool l.pool;
  stands : Stands l.pool;
}

abbrev pub decreases-loop-at : goal.decreases-loop-at
decreases-loop-at l = widths (terms_in l.sum (forest l.pool))
