use Rattle.like_children.proofs.Shared.{suc, ◌≤◌, ◌≡◌, root_ids, nth, children_of, rest_trees, tree_of, kids_of, forest, IsKeyOf, are_alike, NoPairBetween}
use Rattle.like_children.proofs.neighbours.next_pair.Given as goal

abbrev pub invariant-loop-at : goal.invariant-loop-at
invariant-loop-at g l = record {
  behind : l.from ≤ l.at;
  ids : l.ids ≡ root_ids (rest_trees (suc l.at) (kids_of l.parent (forest l.pool)));
  left : IsKeyOf g.L.Likes.has_key g.L.Likes.key_of (nth l.at (children_of (tree_of l.parent l.pool))) (forest l.pool) l.left;
  apart : NoPairBetween (are_alike g.L.Likes.has_key g.L.Likes.key_of) l.from (suc l.at) (children_of (tree_of l.parent l.pool));
}
