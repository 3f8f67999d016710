use Rattle.expand_forms.proofs.{Shared.{◌≡◌, length, nodes, are_polynomials, is_polynomial, root_ids, children_of, plain, rest_trees, tree_at, kids_of, forest}, Nodes.{from}}
use Rattle.expand_forms.proofs.polynomial.+is_polynomial.Given as goal

abbrev pub decreases-is_polynomial : goal.decreases-is_polynomial
decreases-is_polynomial l = nodes (plain (tree_at l.tree (forest l.pool.now)))

abbrev pub invariant-loop-child : goal.invariant-loop-child
invariant-loop-child l = record {
  ids : l.child-iterator ≡ root_ids (rest_trees (length l.yielded) (kids_of l.fn.tree (forest l.pool)));
  left : are_polynomials (from (length l.yielded) (children_of (plain (tree_at l.fn.tree (forest l.pool))))) ≡ is_polynomial (plain (tree_at l.fn.tree (forest l.pool)));
}
