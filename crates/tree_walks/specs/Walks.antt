-- Leaves of a name in walks over trees, and copies in their places.
use Rattle.std.specs.{Prelude.{ℕ, ◌≡◌, ◌≤◌, ◌<◌, List, [], ◌∷◌, ◌++◌, length, take, if◌then◌else◌, Bool, false}, Str.{bytes_eq}}
use Rattle.calc_terms.specs.{Payload.{Payload, rational, named, bare}, Trees.{Tree, none, more}}
use Rattle.tree_handles.specs.{Children.{IsChildAt}, Forest.{Forest, empty, tree, kids, root_count, set_nth, tree_nth}, Handed.{Represents}, Inside.{kids_of, with_kids}}

-- a leaf of the name holds it
abbrev pub has_name : List ℕ → Payload → Bool
has_name x (rational r) = false
has_name x (named y) = bytes_eq y x
has_name x (bare k) = false

-- the identifiers of the leaves of a name, in prefix order
abbrev pub leaves_of : List ℕ → Forest → List ℕ
leaves_of x empty = []
leaves_of x (tree l k r) = (if has_name x l.payload then l.id ∷ [] else []) ++ (leaves_of x k ++ leaves_of x r)

-- the first of some identifiers, and all of them where they are fewer than the most that are looked for
pub record AreFirst (most n : ℕ) (found all : List ℕ) : Type 0 where
  pub behind : List ℕ
  pub all-are : all ≡ take n found ++ behind
  pub places : length found ≡ most
  pub within : n ≤ most
  pub last : n < most → behind ≡ []

-- a child of a node is a leaf that is held once
pub record IsLeafAt (at parent i : ℕ) (f : Forest) : Type 0 where
  pub child : IsChildAt at parent i f
  pub bare : kids (tree_nth at (kids_of parent f)) ≡ empty
  pub once : root_count (tree_nth at (kids_of parent f)) ≡ 1

-- a copy of a tree stands where a child stood
pub record PutsCopy (u : Tree) (at parent : ℕ) (old new : Forest) : Type 0 where
  pub copy : Forest
  pub is : Represents copy (more u none)
  pub forest-is : new ≡ with_kids parent (set_nth at copy (kids_of parent old)) old
