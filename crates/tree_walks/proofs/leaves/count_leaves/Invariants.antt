use Rattle.tree_walks.proofs.{Shared.{◌≡◌, ℕ, ◌+◌, List, length, name_of, tree_at, forest, leaves_of}, Searches.IsLooking}
use Rattle.tree_walks.proofs.leaves.count_leaves.Given as goal

abbrev pub invariant-loop-node : goal.invariant-loop-node
invariant-loop-node l = (rest : List ℕ) × IsLooking (name_of l.fn.name) l.node-iterator rest (forest l.fn.pool) ×
    (l.count + length rest ≡ length (leaves_of (name_of l.fn.name) (tree_at l.fn.id (forest l.fn.pool))))
