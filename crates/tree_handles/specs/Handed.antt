-- What a call that is handed whole trees wants and promises.
use Rattle.std.specs.Prelude.{ℕ, ◌≡◌, List, [], ◌∷◌, true, false}
use Rattle.calc_terms.specs.Trees.{Tree, Trees}
use Rattle.tree_handles.specs.{Forest.{Label, Forest, join, arity, root_id, AllNodes}, Roots.{has_root, root_tree}, Standing.{forest}, Expressions.{plains, plain, AllExpressions}}
use Rattle.node_pool.specs.State.{State}

-- the plain tree of a root
abbrev pub tree_of : ℕ → State → Tree
tree_of i s = plain (root_tree i (forest s))

abbrev pub IsOnce : Label → ℕ → Type 0
IsOnce l n = l.count ≡ 1

-- each count is 1
abbrev pub AllOnce : Forest → Type 0
AllOnce f = AllNodes IsOnce f

-- a root whose nodes are all held once, so that its handle owns the whole tree
pub record IsOwned (i : ℕ) (f : Forest) : Type 0 where
  pub root : has_root i f ≡ true
  pub once : AllOnce (root_tree i f)

-- a tree that may be handed to a call by value: it is owned, and a tree of the language
pub record IsHanded (i : ℕ) (f : Forest) : Type 0 where
  pub root : has_root i f ≡ true
  pub once : AllOnce (root_tree i f)
  pub whole : AllExpressions (root_tree i f)

-- trees of the language, each node held once, whose plain trees are these
pub record Represents (f : Forest) (ts : Trees) : Type 0 where
  pub once : AllOnce f
  pub whole : AllExpressions f
  pub plain_trees : plains f ≡ ts

-- one tree stands behind the others, and none of these has its root's identifier
pub record Ends (i : ℕ) (t others f : Forest) : Type 0 where
  pub whole : f ≡ join others t
  pub alone : arity t ≡ 1
  pub root : root_id t ≡ i
  pub clear : has_root i others ≡ false

-- the answer of a call: one new tree of the language, each of its nodes held once, stands last, behind the others as they were; and what it is
pub record Gives (others new : Forest) (id : ℕ) (Told : Tree → Type 0) : Type 0 where
  pub tree : Forest
  pub ends : Ends id tree others new
  pub once : AllOnce tree
  pub whole : AllExpressions tree
  pub told : Told (plain tree)

-- some trees stand first
pub record Starts (first f : Forest) : Type 0 where
  pub behind : Forest
  pub whole : f ≡ join first behind

-- none of the identifiers is a root's
abbrev pub AreNoRoots : List ℕ → Forest → Type 0
AreNoRoots [] f = Unit {0}
AreNoRoots (i ∷ is) f = (has_root i f ≡ false) × AreNoRoots is f

-- whatever stood first, with none of the handed trees in it, still stands first, as it was
pub record KeepsFront (handed : List ℕ) (old new : Forest) : Type 0 where
  pub keeps : (first : Forest) → Starts first old → AreNoRoots handed first → Starts first new
