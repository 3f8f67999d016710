use Rattle.expand_forms.proofs.Shared.{◌≡◌, length, take, normal, polynomial_of, root_ids, plain, rest_trees, tree_at, kids_of, forest, IsListOf}
use Rattle.expansions.specs.Named.{names_of}
use Rattle.expand_forms.proofs.reading.read_terms.Given as goal

abbrev pub invariant-loop-term : goal.invariant-loop-term
invariant-loop-term l = record {
  ids : l.term-iterator ≡ root_ids (rest_trees (length l.yielded) (kids_of l.fn.tree (forest l.pool)));
  listed : IsListOf (names_of l.names) l.list.items (take (length l.yielded) (normal (polynomial_of (plain (tree_at l.fn.tree (forest l.pool))))));
}
