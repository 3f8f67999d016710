use Rattle.tree_walks.proofs.{Shared.{◌+◌, ◌-◌, ◌*◌, length, name_of, plain, tree_at, forest, occurrences, leaves_of}, Chunks.IsReplacing}
use Rattle.tree_walks.proofs.replacing.put_copies.Given as goal

abbrev pub invariant-loop-at : goal.invariant-loop-at
invariant-loop-at l = IsReplacing l.tree (name_of l.name) (plain (tree_at l.source (forest l.fn.pool))) l.fn.pool l.pool l.passed l.at l.found l.leaves

abbrev pub decreases-loop-at : goal.decreases-loop-at
decreases-loop-at l = length (leaves_of (name_of l.name) (tree_at l.tree (forest l.pool))) - (l.passed + l.at * occurrences (name_of l.name) (plain (tree_at l.source (forest l.fn.pool))))
