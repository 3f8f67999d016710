-- Trees at places of a list.
use Rattle.std.specs.Prelude.{ℕ, List, [], ◌∷◌}
use Rattle.tree_handles.specs.Forest.{Forest, empty, join, first_trees, rest_trees, tree_nth}

-- the trees at these places, in this order
abbrev pub picked : List ℕ → Forest → Forest
picked [] f = empty
picked (i ∷ is) f = join (tree_nth i f) (picked is f)

-- the first trees as they are, and then those at these places behind them
abbrev pub picked_behind : ℕ → List ℕ → Forest → Forest
picked_behind n is f = join (first_trees n f) (picked is (rest_trees n f))
