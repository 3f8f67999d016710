-- The children of a node, listed.
use Rattle.std.specs.Prelude.{ℕ, ◌≡◌, Bool, ltb, leb, List, length, Option, Some, None, insert, remove, slice_set, if◌then◌else◌}
use Rattle.tree_handles.specs.{Children.{root_ids, IsChildAt}, Forest.{Forest, arity}, Inside.{kids_of}}

-- ---- what a list tells: the identifiers of a node's children in their order, or none where it was given up

abbrev pub told : Bool → List ℕ → Option (List ℕ)
told whole ids = if whole then Some ids else None

-- so many are listed at most
abbrev pub listed : ℕ → List ℕ → Option (List ℕ)
listed n ids = told (leb (length ids) n) ids

-- one more child at a place, where there is room for it
abbrev pub with_child : ℕ → ℕ → ℕ → Option (List ℕ) → Option (List ℕ)
with_child n at id None = None
with_child n at id (Some ids) = if leb at (length ids) then listed n (insert ids at id) else None

-- another child in the place of one
abbrev pub with_other : ℕ → ℕ → Option (List ℕ) → Option (List ℕ)
with_other at id None = None
with_other at id (Some ids) = told (ltb at (length ids)) (slice_set ids at id)

-- one child less
abbrev pub without_child : ℕ → Option (List ℕ) → Option (List ℕ)
without_child at None = None
without_child at (Some ids) = told (ltb at (length ids)) (remove ids at)

-- ---- it tells the children of a node

pub record Lists (l : Option (List ℕ)) (i : ℕ) (f : Forest) : Type 0 where
  pub ids-are : (ids : List ℕ) → l ≡ Some ids → ids ≡ root_ids (kids_of i f)

-- the child of a node at a place, none at the place behind the last one
abbrev pub IsNextAt : ℕ → ℕ → Forest → Option ℕ → Type 0
IsNextAt at i f (Some id) = IsChildAt at i id f
IsNextAt at i f None = at ≡ arity (kids_of i f)
