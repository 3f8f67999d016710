use Rattle.number_forms.proofs.Shared.{◌≡◌, rises, terms_of, trees_from, plain, children_of, tree_at, forest}
use Rattle.number_forms.proofs.recognize.rises.Given as goal

abbrev pub invariant-loop-at : goal.invariant-loop-at
invariant-loop-at l = rises (terms_of (trees_from l.at (children_of (plain (tree_at l.id (forest l.pool)))))) ≡ rises (terms_of (children_of (plain (tree_at l.id (forest l.pool)))))
