use Rattle.expand_forms.proofs.{Shared.{◌≡◌, ◌≤◌, children_of, count, plain, product_of, tree_at, forest, IsListOf}, Nodes.{from}}
use Rattle.expansions.specs.Named.{names_of}
use Rattle.expand_forms.proofs.by_values.list_products.Given as goal

abbrev pub invariant-loop-left : goal.invariant-loop-left
invariant-loop-left l = record {
  names : l.lists.names ≡ l.fn.lists.names;
  within : l.left ≤ count (children_of (plain (tree_at l.id (forest l.pool))));
  list : IsListOf (names_of l.fn.lists.names.items) l.lists.answer.items (product_of (from l.left (children_of (plain (tree_at l.id (forest l.pool))))));
}

abbrev pub decreases-loop-left : goal.decreases-loop-left
decreases-loop-left l = l.left
