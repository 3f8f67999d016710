use Rattle.dual_diff.proofs.{Shared.{◌+◌, ◌*◌, name_of, nodes, derivatives, first, children_of, tree_of}, Written.{AreWritten}}
use Rattle.dual_diff.proofs.writing.+writing.Given as goal

abbrev pub decreases-write_derivative : goal.decreases-write_derivative
decreases-write_derivative g l = 4 * nodes (tree_of l.tree l.pool.now) + 3

abbrev pub decreases-write_same : goal.decreases-write_same
decreases-write_same g l = 4 * nodes (tree_of l.tree l.pool.now) + 2

abbrev pub decreases-write_products : goal.decreases-write_products
decreases-write_products g l = 4 * nodes (tree_of l.tree l.pool.now) + 2

abbrev pub decreases-write_product : goal.decreases-write_product
decreases-write_product g l = 4 * nodes (tree_of l.tree l.pool.now) + 1

abbrev pub decreases-write_quotient : goal.decreases-write_quotient
decreases-write_quotient g l = 4 * nodes (tree_of l.tree l.pool.now) + 2

abbrev pub decreases-write_difference : goal.decreases-write_difference
decreases-write_difference g l = 4 * (nodes (tree_of l.dividend l.pool.now) + nodes (tree_of l.divisor l.pool.now)) + 5

abbrev pub decreases-write_power : goal.decreases-write_power
decreases-write_power g l = 4 * nodes (tree_of l.tree l.pool.now) + 2

abbrev pub decreases-write_lowered : goal.decreases-write_lowered
decreases-write_lowered g l = 4 * nodes (tree_of l.base l.pool.now) + 4

abbrev pub decreases-write_root : goal.decreases-write_root
decreases-write_root g l = 4 * nodes (tree_of l.tree l.pool.now) + 2

abbrev pub invariant-write_same-loop-at : goal.invariant-write_same-loop-at
invariant-write_same-loop-at g l = g.W.Writer.writes l.fn.writer l.fn.pool l.writer l.pool (derivatives (name_of l.name) (first l.at (children_of (tree_of l.tree l.fn.pool))))

abbrev pub invariant-write_products-loop-at : goal.invariant-write_products-loop-at
invariant-write_products-loop-at g l = AreWritten g.W.Writer.writes (name_of l.name) l.at l.products l.seen l.fn.writer l.fn.pool l.writer l.pool (children_of (tree_of l.tree l.fn.pool))
