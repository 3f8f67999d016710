use Rattle.like_children.proofs.Shared.{◌≡◌, MatchOption, root_ids, children_of, rest_trees, tree_of, kids_of, forest, NoneOpensBetween, IsLastToOpen}
use Rattle.like_children.proofs.opening.last_to_open.Given as goal

abbrev pub invariant-loop-at : goal.invariant-loop-at
invariant-loop-at g l = record {
  ids : l.ids ≡ root_ids (rest_trees l.at (kids_of l.parent (forest l.pool)));
  last : MatchOption l.last (NoneOpensBetween g.O.Opens.parts 0 l.at (children_of (tree_of l.parent l.pool))) (λ n. IsLastToOpen g.O.Opens.parts n l.at (children_of (tree_of l.parent l.pool)));
}
