use Rattle.tree_walks.proofs.{Shared.{◌≡◌, ◌<◌, ℕ, List, ◌++◌, length, take, drop, name_of, tree_at, forest, leaves_of}, Searches.IsLooking}
use Rattle.tree_walks.proofs.leaves.find_leaves.Given as goal

abbrev pub invariant-loop-node : goal.invariant-loop-node
invariant-loop-node l =
    (rest : List ℕ) × IsLooking (name_of l.fn.name) l.node-iterator rest (forest l.fn.pool)
    × (drop l.fn.passed (leaves_of (name_of l.fn.name) (tree_at l.fn.id (forest l.fn.pool))) ≡ take l.found l.leaves ++ drop l.passing rest) × (length l.leaves ≡ 256) × (l.found < 256)
