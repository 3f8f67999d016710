use Rattle.like_children.proofs.Shared.{◌≡◌, ◌≤◌, root_ids, children_of, rest_trees, tree_of, kids_of, forest, NoNumberBetween}
use Rattle.like_children.proofs.numbers.next_number.Given as goal

abbrev pub invariant-loop-at : goal.invariant-loop-at
invariant-loop-at l = record {
  behind : l.from ≤ l.at;
  ids : l.ids ≡ root_ids (rest_trees l.at (kids_of l.parent (forest l.pool)));
  none : NoNumberBetween l.from l.at (children_of (tree_of l.parent l.pool));
}
