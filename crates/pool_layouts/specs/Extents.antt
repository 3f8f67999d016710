-- How much room the pictures of layouts take, listed in prefix order.
use Rattle.std.specs.Prelude.{ℕ, suc, ◌≡◌, ◌≤◌, ◌^◌, List, [], ◌∷◌, ◌++◌, length, nat_abs, drop, true}
use Rattle.calc_terms.specs.Payload.{Payload, rational, named, bare, IsPayload}
use Rattle.calc_language.specs.Texts.{decimal}
use Rattle.tree_handles.specs.Forest.{Label, Forest, empty, tree, arity, nodes_in, bytes_in, AllNodes}
use Rattle.pool_layouts.specs.{declared.extents.Extent.{Extent}, Drawings.{drawn, drawings, composes, AllComposed}, Pictures.{Block, picture}}

-- the extent of a picture, for a layout of so many nodes
abbrev pub extent_from : ℕ → Block → Extent
extent_from n b = record { nodes = n; width = b.width; above = b.above; below = b.below }

-- that of a node over its parts
abbrev pub extent_of : Payload → Forest → Extent
extent_of x k = extent_from (suc (nodes_in k)) (picture (drawn x (drawings k)))

-- those of all nodes in prefix order
abbrev pub extents_of : Forest → List Extent
extents_of empty = []
extents_of (tree l k r) = extent_of l.payload k ∷ (extents_of k ++ extents_of r)

-- the list begins with the extents of these trees
pub record HasExtents (f : Forest) (at : ℕ) (es : List Extent) : Type 0 where
  pub behind : List Extent
  pub extents_are : drop at es ≡ extents_of f ++ behind

-- what a node of a tree in a pool may hold
abbrev pub IsValid : Label → ℕ → Type 0
IsValid l n = IsPayload l.payload

abbrev pub AllValid : Forest → Type 0
AllValid f = AllNodes IsValid f

-- the extents of layout trees are listed from a place on, and they are small
pub record HasSmall (f : Forest) (first : ℕ) (es : List Extent) : Type 0 where
  pub behind : List Extent
  pub extents_are : drop first es ≡ extents_of f ++ behind
  pub composed_parts : AllComposed f
  pub valid_parts : AllValid f
  pub few : bytes_in f ≤ 524280

abbrev pub HasSomeSmall : ℕ → ℕ → List Extent → Type 0
HasSomeSmall parts first es = (f : Forest) × HasSmall f first es × (parts ≡ arity f)

abbrev pub HasSomeFirst : ℕ → List Extent → Type 0
HasSomeFirst first es = (l : Label) × (k : Forest) × (r : Forest) × HasSmall (tree l k r) first es

-- two trees are listed from a place on
pub record HasPair (lower : Label) (below : Forest) (first : ℕ) (es : List Extent) : Type 0 where
  pub upper : Label
  pub above : Forest
  pub others : Forest
  pub small : HasSmall (tree upper above (tree lower below others)) first es

abbrev pub HasSomePair : ℕ → List Extent → Type 0
HasSomePair first es = (lower : Label) × (below : Forest) × HasPair lower below first es

-- the parts of a node that holds this are listed from a place on
pub record IsOver (x : Payload) (k : Forest) (first : ℕ) (es : List Extent) : Type 0 where
  pub small : HasSmall k first es
  pub payload : IsPayload x
  pub composed_node : composes x (arity k) ≡ true

abbrev pub IsSomeOver : Payload → ℕ → ℕ → List Extent → Type 0
IsSomeOver x parts first es = (k : Forest) × IsOver x k first es × (parts ≡ arity k)

-- the columns of a node that has no parts
abbrev pub leaf_width : Payload → ℕ
leaf_width (rational r) = length (decimal (nat_abs r.num))
leaf_width (named x) = length x
leaf_width (bare k) = 1

-- small enough that a few of them can be added
pub record IsSmall (e : Extent) : Type 0 where
  pub nodes : e.nodes ≤ 2 ^ 20
  pub width : e.width ≤ 2 ^ 20
  pub above : e.above ≤ 2 ^ 20
  pub below : e.below ≤ 2 ^ 20
