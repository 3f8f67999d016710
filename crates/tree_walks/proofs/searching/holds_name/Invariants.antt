use Rattle.tree_walks.proofs.{Shared.{name_of, tree_at, forest, leaves_of}, Searches.IsLooking}
use Rattle.tree_walks.proofs.searching.holds_name.Given as goal

abbrev pub invariant-loop-node : goal.invariant-loop-node
invariant-loop-node l = IsLooking (name_of l.fn.name) l.node-iterator (leaves_of (name_of l.fn.name) (tree_at l.fn.id (forest l.fn.pool))) (forest l.fn.pool)
