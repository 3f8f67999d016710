-- What comes of a tree in which a name was replaced.
use Rattle.std.specs.Prelude.{ℕ, ◌≡◌, ◌≢◌, ◌+◌, ◌*◌, ◌<◌, ◌↔◌, ◌⊎◌, List, Contains}
use Rattle.calc_terms.specs.Trees.{Tree, symbol, names, size, root_size}
use Rattle.tree_walks.specs.Replacing.{replaced, occurrences}

-- a tree without the name stays as it is
abbrev pub StaysWhereAbsent : Type 0
StaysWhereAbsent = (x : List ℕ) (u t : Tree) → (Contains (names t) x → ⊥) → replaced x u t ≡ t

-- each name in it was another name of the tree, or is one of the tree that was put in
abbrev pub NamesOfReplaced : Type 0
NamesOfReplaced = (x : List ℕ) (u t : Tree) (y : List ℕ) → Contains (names (replaced x u t)) y → (Contains (names t) y × (y ≢ x)) ⊎ Contains (names u) y

-- a name occurs in a tree where it is one of its names
abbrev pub OccursWhereNamed : Type 0
OccursWhereNamed = (x : List ℕ) (t : Tree) → (0 < occurrences x t) ↔ Contains (names t) x

-- its bytes
abbrev pub BytesOfReplaced : Type 0
BytesOfReplaced = (x : List ℕ) (u t : Tree) → size (replaced x u t) + occurrences x t * root_size (symbol x) ≡ size t + occurrences x t * size u
