-- A child of a root is taken out for a while, and a tree fills its place.
use Rattle.std.specs.Prelude.{ℕ, zero, suc, ◌≡◌, ◌<◌}
use Rattle.calc_terms.specs.Trees.{Tree, Trees, none, more, count, root_kind}
use Rattle.tree_handles.specs.{Expressions.{children_of, compound, plain}, Forest.{Forest, kids, without_nth}, Handed.{IsHanded}, Roots.{put, root_tree}}

-- ---- plain trees

-- the trees with another at a place, counted from 0
abbrev pub set_tree : ℕ → Tree → Trees → Trees
set_tree n u none = none
set_tree zero u (more t ts) = more u ts
set_tree (suc n) u (more t ts) = more t (set_tree n u ts)

-- the tree with another child at a place
abbrev pub set_child : ℕ → Tree → Tree → Tree
set_child n u t = compound (root_kind t) (set_tree n u (children_of t))

-- ---- forests

-- of which root a child is out, and at which place
pub record Place : Type 0 where
  pub parent : ℕ
  pub at : ℕ

-- a root that was handed whole lacks the child at a place, and all other trees are as before
pub record IsHole (place : Place) (i n : ℕ) (old f : Forest) : Type 0 where
  pub is : place ≡ record { parent = i; at = n }
  pub handed : IsHanded i old
  pub within : n < count (children_of (plain (root_tree i old)))
  pub whole : f ≡ put i (without_nth n (kids (root_tree i old))) old

-- a root's tree, whole again, is this one now, where it stood, and all other trees are as before
pub record ChangesTree (i : ℕ) (t : Tree) (old new : Forest) : Type 0 where
  pub kids : Forest
  pub whole : new ≡ put i kids old
  pub handed : IsHanded i new
  pub tree : plain (root_tree i new) ≡ t
