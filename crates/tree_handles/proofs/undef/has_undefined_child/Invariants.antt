use Rattle.tree_handles.proofs.{Shared.{◌≡◌, length, has_undef, root_ids, children_of, plain, rest_trees, tree_at, kids_of, forest}, UndefChildren.behind}
use Rattle.tree_handles.proofs.undef.has_undefined_child.Given as goal

abbrev pub invariant-loop-child : goal.invariant-loop-child
invariant-loop-child l = record {
  ids : l.child-iterator ≡ root_ids (rest_trees (length l.yielded) (kids_of l.fn.id (forest l.pool)));
  undef : has_undef (children_of (plain (tree_at l.fn.id (forest l.pool)))) ≡ has_undef (behind (length l.yielded) (children_of (plain (tree_at l.fn.id (forest l.pool)))));
}
