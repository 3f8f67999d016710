use Rattle.beautify.proofs.{Shared.{◌≡◌, ◌+◌, ◌≤◌, length, vec_capacity, children_of, plain, rest_trees, tree_at, kids_of, forest, root_ids}, Sharing.IsShared}
use Rattle.beautify.proofs.shares.push_shares.Given as goal

abbrev pub invariant-loop-child : goal.invariant-loop-child
invariant-loop-child l = record {
  ids : l.child-iterator ≡ root_ids (rest_trees (l.fn.from + length l.yielded) (kids_of l.fn.parent (forest l.fn.pool)));
  shared : IsShared l.fn.share l.fn.from l.yielded l.fn.pending.items l.pending.items l.came (forest l.fn.pool) (children_of (plain (tree_at l.fn.parent (forest l.fn.pool))));
  capacity : vec_capacity l.fn.pending ≤ vec_capacity l.pending;
}
