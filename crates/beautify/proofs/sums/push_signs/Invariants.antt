use Rattle.beautify.proofs.{Shared.{◌≡◌, suc, ◌≤◌, length, vec_capacity, children_of, plain, rest_trees, tree_at, kids_of, forest, root_ids}, SumSigns.IsSigned}
use Rattle.beautify.proofs.sums.push_signs.Given as goal

abbrev pub invariant-loop-term : goal.invariant-loop-term
invariant-loop-term l = record {
  ids : l.term-iterator ≡ root_ids (rest_trees (suc (length l.yielded)) (kids_of l.fn.sum (forest l.fn.pool)));
  signed : IsSigned (suc (length l.yielded)) l.terms (children_of (plain (tree_at l.fn.sum (forest l.fn.pool)))) (forest l.fn.pool) l.fn.pending.items l.pending.items;
  capacity : vec_capacity l.fn.pending ≤ vec_capacity l.pending;
}
