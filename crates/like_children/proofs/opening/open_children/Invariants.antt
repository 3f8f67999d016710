use Rattle.like_children.proofs.Shared.{◌≤◌, count, opened_from, children_of, tree_of, Stands, forest, KeepsRefusals, HasChildren}
use Rattle.like_children.proofs.opening.open_children.Given as goal

abbrev pub invariant-loop-at : goal.invariant-loop-at
invariant-loop-at g l = record {
  few : l.first ≤ count (children_of (tree_of l.parent l.initial.pool));
  opened : HasChildren l.parent (opened_from g.O.Opens.parts l.first (children_of (tree_of l.parent l.initial.pool))) (forest l.initial.pool) (forest l.pool);
  kept : KeepsRefusals l.initial.pool l.pool;
  stands : Stands l.pool;
}

abbrev pub decreases-loop-at : goal.decreases-loop-at
decreases-loop-at g l = l.first
