use Rattle.dual_diff.proofs.Shared.{◌≡◌, length, name_of, nodes, AllPartsOf, IsDerivable, first, root_ids, children_of, plain, rest_trees, tree_at, kids_of, forest}
use Rattle.dual_diff.proofs.derivable.+all_derivable.Given as goal

abbrev pub decreases-all_derivable : goal.decreases-all_derivable
decreases-all_derivable l = nodes (plain (tree_at l.node (forest l.pool.now)))

abbrev pub invariant-loop-child : goal.invariant-loop-child
invariant-loop-child l = record { ids : l.child-iterator ≡ root_ids (rest_trees (length l.yielded) (kids_of l.fn.node (forest l.pool))); passed : AllPartsOf (IsDerivable (name_of l.name)) (first (length l.yielded) (children_of (plain (tree_at l.fn.node (forest l.pool))))) }
