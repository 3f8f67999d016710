use Rattle.like_children.proofs.Shared.{ℕ, List, ◌≡◌, ◌<◌, true, [], ◌∷◌, fold_values, SpansTree, SpansTrees, count, is_num, are_rationals, is_reduced, nth, children_of, tree_of, KeepsFront}
use Rattle.like_children.proofs.{Shared.{without_root, Stands, forest, KeepsRefusals, LeavesChildren, AreFolded, rational_of, rationals_of}, SoFar.{IsSoFar}}
use Rattle.like_children.proofs.collecting.collect_numbers.Given as goal

abbrev pub invariant-loop-at : goal.invariant-loop-at
invariant-loop-at g l =
    let n = tree_of l.fn.number l.fn.pool in
    let ts = children_of (tree_of l.parent l.fn.pool) in
    let us = children_of (tree_of l.parent l.pool) in
    let d = tree_of l.so_far l.pool in
    record {
      left : LeavesChildren l.parent us (without_root l.fn.number (forest l.fn.pool)) (forest l.pool) l.so_far;
      numbers : IsSoFar g.J.Joins.both n ts us d;
      reduced : (k : ℕ) → k < count us → is_reduced (nth k us) ≡ true;
      folded : is_num n ≡ true → are_rationals ts ≡ true → AreFolded g.J.Joins.operation (fold_values g.J.Joins.operation (rational_of n) (rationals_of ts)) d us;
      spanned : (gs : List ℕ) → SpansTree gs n → SpansTrees gs ts → SpansTree gs d × SpansTrees gs us;
      front : KeepsFront (l.parent ∷ l.fn.number ∷ []) (forest l.fn.pool) (forest l.pool);
      kept : KeepsRefusals l.fn.pool l.pool;
      stands : Stands l.pool;
    }

abbrev pub decreases-loop-at : goal.decreases-loop-at
decreases-loop-at g l = count (children_of (tree_of l.parent l.pool))
