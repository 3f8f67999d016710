use Rattle.expand_forms.proofs.Shared.{◌≡◌, take, plain, tree_at, forest, IsListOf, parts_of, total}
use Rattle.expansions.specs.Named.{names_of}
use Rattle.expand_forms.proofs.by_values.list_sum.Given as goal

abbrev pub invariant-loop-at : goal.invariant-loop-at
invariant-loop-at l = record {
  names : l.lists.names ≡ l.fn.lists.names;
  list : IsListOf (names_of l.fn.lists.names.items) l.lists.answer.items (total (take l.at (parts_of (plain (tree_at l.id (forest l.pool))))));
}
