use Rattle.node_order.proofs.{Shared.{length, tree_cmp, Tree, Shows, forest}, Pairs.{IsOpen}}
use Rattle.node_order.proofs.comparing.compare_fronts.Given as goal

abbrev pub invariant-loop-left : goal.invariant-loop-left
invariant-loop-left l = (t u : Tree) → Shows l.fn.left t (forest l.pool) → Shows l.fn.right u (forest l.pool) → IsOpen l.left l.right l.pairs.owed l.pairs.undecided (tree_cmp t u) (forest l.pool)

abbrev pub decreases-loop-left : goal.decreases-loop-left
decreases-loop-left l = length l.left.behind
