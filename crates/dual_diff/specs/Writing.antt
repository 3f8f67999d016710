-- Trees that are written one behind another: their bytes counted, or placed behind all others.
use Rattle.std.specs.Prelude.{ℕ, ◌+◌, ◌≡◌, ◌≤◌, List, Option, Some, true}
use Rattle.calc_terms.specs.{declared.kind.Kind.{Kind}, Payload.{bare, size_of_payload}, Trees.{Tree, Trees, none, more, append, count, root_kind, size, sizes}}
use Rattle.dual_diff.specs.{Derivatives.{HasDerivative}, Occurring.{occurs}, Placing.{Adds, AddsAll, capped}}
use Rattle.node_pool.specs.{Nodes.{used}, State.{State}}
use Rattle.tree_handles.specs.{Expressions.{IsExpression, plain, takes_kind}, Inside.{tree_at}, Standing.{Stands, forest}}

-- the tree of a node
abbrev pub tree_of : ℕ → State → Tree
tree_of i s = plain (tree_at i (forest s))

abbrev pub one : Tree → Trees
one t = more t none

-- ---- what writers do

-- each tree of the language that stood still stands, as it was
pub record KeepsTrees (old new : State) : Type 0 where
  pub stands : Stands new
  pub expressions : (i : ℕ) → IsExpression i (forest old) → IsExpression i (forest new)
  pub same : (i : ℕ) → IsExpression i (forest old) → tree_of i new ≡ tree_of i old

-- what is written between two moments, each a writer and a pool, and for how many bytes a pool has room
pub record IsWriting {W : Type 0} (Writes : W → State → W → State → Trees → Type 0) (HasRoom : State → ℕ → Type 0) : Type 0 where
  pub nothing : {w : W} {s : State} → Stands s → Writes w s w s none
  pub joined : {w v u : W} {s t r : State} {ts us : Trees} → Writes w s v t ts → Writes v t u r us → Writes w s u r (append ts us)
  pub keeps : {w v : W} {s t : State} {ts : Trees} → Writes w s v t ts → KeepsTrees s t
  pub less : {s : State} {n m : ℕ} → HasRoom s n → m ≤ n → HasRoom s m
  pub room : {w v : W} {s t : State} {ts : Trees} {n m : ℕ} → Writes w s v t ts → HasRoom s n → sizes ts + m ≤ n → HasRoom t m

-- a tree of which there is room for a copy
pub record CanCopy (HasRoom : State → ℕ → Type 0) (i : ℕ) (s : State) : Type 0 where
  pub stands : Stands s
  pub expression : IsExpression i (forest s)
  pub room : HasRoom s (size (tree_of i s))

-- the last n trees were written since so many bytes were in use, and there is room for a node over them
pub record CanGather {W : Type 0} (Writes : W → State → W → State → Trees → Type 0) (HasRoom : State → ℕ → Type 0) (k : Kind) (n begin : ℕ) (w : W) (s : State) : Type 0 where
  pub writer : W
  pub start : State
  pub trees : Trees
  pub written : Writes writer start w s trees
  pub counted : count trees ≡ n
  pub from-begin : begin ≡ used start.nodes
  pub takes : takes_kind k n ≡ true
  pub room : HasRoom s (size_of_payload (bare k))

-- their bytes are counted, up to the largest number
pub record Counts (s t : State) (old new : ℕ) (ts : Trees) : Type 0 where
  pub stands : Stands s
  pub same : t ≡ s
  pub bytes : capped new ≡ capped (old + sizes ts)

-- which tree was written last, where that was one or none
abbrev pub IsLast : Trees → State → State → Option ℕ → Option ℕ → Type 0
IsLast none s t old new = (t ≡ s) × (new ≡ old)
IsLast (more a none) s t old new = (h : ℕ) × (new ≡ Some h) × Adds s t a h
IsLast (more a (more b ts)) s t old new = Unit {0}

-- they stand behind all others, and the last one is known by its identifier
pub record Places (s t : State) (old new : Option ℕ) (ts : Trees) : Type 0 where
  pub stood : Stands s
  pub adds : AddsAll s t ts
  pub last : IsLast ts s t old new

-- ---- trees whose derivatives are written

-- a node of a tree that has a derivative
pub record CanDerive (x : List ℕ) (i : ℕ) (s : State) : Type 0 where
  pub stands : Stands s
  pub expression : IsExpression i (forest s)
  pub derivable : HasDerivative x (tree_of i s)

-- a tree of a kind that holds the name
pub record Holds (k : Kind) (x : List ℕ) (t : Tree) : Type 0 where
  pub kind : root_kind t ≡ k
  pub held : occurs x t ≡ true
