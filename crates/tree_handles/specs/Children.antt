-- The children of a node, by their places among them.
use Rattle.std.specs.Prelude.{ℕ, ◌≡◌, ◌<◌, List, [], ◌∷◌}
use Rattle.tree_handles.specs.{Forest.{Forest, empty, tree, arity, root_id, tree_nth}, Inside.{kids_of}}

-- the identifiers of the roots of a forest
abbrev pub root_ids : Forest → List ℕ
root_ids empty = []
root_ids (tree l k r) = l.id ∷ root_ids r

-- a node is the child of another at a place among its children, counted from 0
pub record IsChildAt (n parent i : ℕ) (f : Forest) : Type 0 where
  pub within : n < arity (kids_of parent f)
  pub id-is : i ≡ root_id (tree_nth n (kids_of parent f))

-- two nodes are children of one, at two places
pub record AreSiblings (parent i x j y : ℕ) (f : Forest) : Type 0 where
  pub first : IsChildAt i parent x f
  pub second : IsChildAt j parent y f
