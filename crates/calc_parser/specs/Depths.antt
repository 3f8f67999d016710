-- The depth of a tree from its nodes in postfix order.
use Rattle.std.specs.Prelude.{ℕ, suc, ◌-◌, max, List, [], ◌∷◌, ◌++◌, length, take, drop}
use Rattle.calc_parser.specs.Postfix.{Node, leaf, parent}

-- the largest, or 0
abbrev pub deepest : List ℕ → ℕ
deepest [] = 0
deepest (d ∷ ds) = max d (deepest ds)

-- a leaf is 1 deep; a parent takes the place of the last trees, its children
abbrev pub with_node : List ℕ → Node → List ℕ
with_node ds (leaf t) = ds ++ 1 ∷ []
with_node ds (parent k n) = take (length ds - n) ds ++ suc (deepest (drop (length ds - n) ds)) ∷ []

-- all the nodes
abbrev pub with_nodes : List ℕ → List Node → List ℕ
with_nodes ds [] = ds
with_nodes ds (x ∷ xs) = with_nodes (with_node ds x) xs
