-- Where the node of each identifier begins, as one place for each.
use Rattle.std.specs.Prelude.{ℕ, ◌≡◌, ◌+◌, List, [], ◌∷◌, true, slice_index_or, slice_set}
use Rattle.calc_terms.specs.Node.{Node, size_of}
use Rattle.node_pool.specs.Nodes.{has, place_of}

-- the place that is noted for an identifier, 0 beyond the last
abbrev pub place_in : ℕ → List ℕ → ℕ
place_in id places = slice_index_or places id 0

-- the places of nodes that stand one after another from a place on, noted
abbrev pub noted : ℕ → List Node → List ℕ → List ℕ
noted at [] places = places
noted at (n ∷ ns) places = noted (at + size_of n) ns (slice_set places n.id at)

-- what is noted for the identifier of a node is its place
abbrev pub ArePlacesOf : List Node → List ℕ → Type 0
ArePlacesOf ns places = (id : ℕ) → has id ns ≡ true → place_in id places ≡ place_of id ns
