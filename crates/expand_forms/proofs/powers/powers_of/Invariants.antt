use Rattle.expand_forms.proofs.{Shared.{◌≡◌, length, map, take, name_of, normal, polynomial_of, root_ids, plain, rest_trees, tree_at, kids_of, forest, value_of}, NotedPowers.{AreUpTo}}
use Rattle.expand_forms.proofs.powers.powers_of.Given as goal

abbrev pub invariant-loop-term : goal.invariant-loop-term
invariant-loop-term l = record {
  ids : l.term-iterator ≡ root_ids (rest_trees (length l.yielded) (kids_of l.fn.expanded (forest l.pool)));
  noted : AreUpTo (name_of l.fn.name) (take (length l.yielded) (normal (polynomial_of (plain (tree_at l.fn.expanded (forest l.pool)))))) (map value_of l.coefficients) l.highest;
}
