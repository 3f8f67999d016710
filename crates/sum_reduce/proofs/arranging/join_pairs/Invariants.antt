use Rattle.std.proofs.Common.{◌<◌, ◌≤◌, ◌+◌, ◌^◌, [], ◌∷◌, MatchOption, IfSome}
use Rattle.sum_reduce.proofs.Shared.{NoneIs, KeepsFront, Stands, forest, KeepsRefusals, IsPairAt, IsStage, widths, Changes, terms_in, is_loose, is_partner, counted_in_all}
use Rattle.sum_reduce.proofs.arranging.join_pairs.Given as goal

abbrev pub invariant-loop-next : goal.invariant-loop-next
invariant-loop-next l = record {
  changes : Changes l.sum (forest l.fn.pool) (forest l.pool);
  stage : IsStage (terms_in l.sum (forest l.fn.pool)) (terms_in l.sum (forest l.pool));
  fewer : MatchOption l.next (widths (terms_in l.sum (forest l.pool)) < widths (terms_in l.sum (forest l.fn.pool))) (λ n. IsPairAt is_partner n (terms_in l.sum (forest l.pool)));
  counts : counted_in_all (terms_in l.sum (forest l.pool)) ≤ counted_in_all (terms_in l.sum (forest l.fn.pool));
  flat : IfSome l.next (λ n. NoneIs is_loose (terms_in l.sum (forest l.pool)));
  fits : IfSome l.next (λ n. n + 1 < 2 ^ 16);
  front : KeepsFront (l.sum ∷ []) (forest l.fn.pool) (forest l.pool);
  kept : KeepsRefusals l.fn.pool l.pool;
  stands : Stands l.pool;
}

abbrev pub decreases-loop-next : goal.decreases-loop-next
decreases-loop-next l = widths (terms_in l.sum (forest l.pool))
