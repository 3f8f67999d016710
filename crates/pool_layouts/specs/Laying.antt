-- What is placed for a face's node, and how it may be refused.
use Rattle.std.specs.Prelude.{ℕ, ◌≡◌, ◌≤◌, List, [], ◌∷◌, Option, Some, None, Err, Bool, true, false}
use Rattle.calc_terms.specs.{declared.kind.Kind.{Kind}, Payload.{Payload, rational, named, bare, is_bare, size_of_payload}}
use Rattle.node_pool.specs.{declared.full.Full.{Full}, State.{State, free_of}}
use Rattle.tree_handles.specs.{Building.{taking}, Forest.{Forest, join, arity, bytes_in, one_tree, last_trees, before_last}, Handed.{Ends, Starts, AllOnce}, Standing.{forest, Refuses, LacksBytes}}
use Rattle.pool_layouts.specs.{Drawings.{AllComposed, composes_kind, drawings}, Places.{laid, marks}}

-- a number or a name
abbrev pub is_leaf : Payload → Bool
is_leaf (rational r) = true
is_leaf (named x) = true
is_leaf (bare k) = false

-- the bytes of what a part stands in
abbrev pub around_sizes : Option Kind → List ℕ
around_sizes None = []
around_sizes (Some k) = size_of_payload (bare k) ∷ []

-- the bytes of a node and of what it stands in
abbrev pub root_sizes : Payload → Option Kind → List ℕ
root_sizes x around = size_of_payload (laid x) ∷ around_sizes around

-- a tree stands in a node, or as it is
abbrev pub held_in : Option Kind → ℕ → Forest → Forest
held_in None i t = t
held_in (Some k) i t = one_tree i (bare k) t

-- the last trees, so many, are the parts of one new tree
pub record Closes (x : Payload) (around : Option Kind) (parts : ℕ) (old new : Forest) (id : ℕ) : Type 0 where
  pub root : ℕ
  pub ends : Ends id (held_in around id (one_tree root (laid x) (last_trees parts old))) (before_last parts old) new

-- a kind in which one part may stand
abbrev pub IsAround : Option Kind → Type 0
IsAround None = Unit {0}
IsAround (Some k) = (is_bare k ≡ true) × (composes_kind k 1 ≡ true)

-- a tree stands last, and so many bytes stand before it
pub record HasLast (i begin : ℕ) (f : Forest) : Type 0 where
  pub tree : Forest
  pub others : Forest
  pub ends : Ends i tree others f
  pub begins : begin ≡ bytes_in others

-- the last tree stands in a node, or as it is
pub record StandsIn (around : Option Kind) (i : ℕ) (old new : Forest) (id : ℕ) : Type 0 where
  pub stands_in : (t others : Forest) → Ends i t others old → Ends id (held_in around id t) others new

-- the mark before a tree was placed, where there is one
pub record PlacesMark (mark : Option Kind) (old new : Forest) (n : ℕ) : Type 0 where
  pub parts : Forest
  pub whole : new ≡ join old parts
  pub once : AllOnce parts
  pub composed_whole : AllComposed parts
  pub drawings_are : drawings parts ≡ marks mark
  pub number : n ≡ arity parts
  pub few : n ≤ 1

-- one of the placings was refused, and some trees still stand first
pub record IsStopped (first : Forest) (sizes : List ℕ) (old new : State) (full : Full) : Type 0 where
  pub full_is : taking (free_of old) sizes ≡ Err full
  pub refuses : Refuses old new full
  pub lacks : LacksBytes new full
  pub front : Starts first (forest new)
