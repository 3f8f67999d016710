-- What goes of trees in prefix order where a subtree that is still held stays.
use Rattle.std.specs.Prelude.{ℕ, ◌-◌, ◌+◌, ◌==◌, if◌then◌else◌, List, [], ◌∷◌, nat_le}
use Rattle.calc_terms.specs.Node.{Node}

-- of so many trees, the nodes before the first one that is held more than once
abbrev pub unheld : ℕ → List Node → List Node
unheld trees [] = []
unheld trees (n ∷ ns) = if trees == 0 then [] else if nat_le n.count 1 then n ∷ unheld (trees - 1 + n.children) ns else []

-- how many trees are still to come behind these nodes, where so many begin with the first
abbrev pub owed_behind : ℕ → List Node → ℕ
owed_behind trees [] = trees
owed_behind trees (n ∷ ns) = owed_behind (trees - 1 + n.children) ns
