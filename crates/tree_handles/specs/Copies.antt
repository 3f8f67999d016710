-- Copies of trees.
use Rattle.std.specs.Prelude.{ℕ, ◌≡◌, List, [], ◌∷◌}
use Rattle.calc_terms.specs.Node.{Node}
use Rattle.tree_handles.specs.Forest.{Forest, empty, tree, join, root_id}

-- the same trees, but for identifiers, and each count 1
abbrev pub IsCopy : Forest → Forest → Type 0
IsCopy empty empty = Unit {0}
IsCopy empty (tree m j s) = ⊥
IsCopy (tree l k r) empty = ⊥
IsCopy (tree l k r) (tree m j s) = (m.count ≡ 1) × (m.payload ≡ l.payload) × IsCopy k j × IsCopy r s

-- a copy of some trees stands behind the others
pub record AddsCopy (source old new : Forest) (id : ℕ) : Type 0 where
  pub copy : Forest
  pub whole : new ≡ join old copy
  pub same : IsCopy source copy
  pub root : root_id copy ≡ id

-- ---- the same of nodes in prefix order

-- a copy of a node
abbrev pub copy_of : ℕ → Node → Node
copy_of id n = record { id = id; count = 1; children = n.children; payload = n.payload }

abbrev pub AreCopies : List Node → List Node → Type 0
AreCopies [] [] = Unit {0}
AreCopies [] (n ∷ ms) = ⊥
AreCopies (n ∷ ns) [] = ⊥
AreCopies (n ∷ ns) (m ∷ ms) = (m.count ≡ 1) × (m.payload ≡ n.payload) × (m.children ≡ n.children) × AreCopies ns ms
