-- Trees that are added behind all others.
use Rattle.std.specs.Prelude.{ℕ, ◌≡◌, ◌-◌, ◌^◌, min}
use Rattle.calc_terms.specs.Trees.{Tree, Trees}
use Rattle.node_pool.specs.State.{State}
use Rattle.tree_handles.specs.{Forest.{Forest, join}, Handed.{Gives, Represents}, Standing.{Stands, forest, KeepsRefusals}}

-- one tree stands behind the others, which are as before
pub record Adds (old new : State) (t : Tree) (id : ℕ) : Type 0 where
  pub gives : Gives (forest old) (forest new) id (λ u. u ≡ t)
  pub kept : KeepsRefusals old new
  pub stands : Stands new

-- trees stand behind the others, which are as before
pub record AddsAll (old new : State) (ts : Trees) : Type 0 where
  pub made : Forest
  pub whole : forest new ≡ join (forest old) made
  pub represents : Represents made ts
  pub kept : KeepsRefusals old new
  pub stands : Stands new

-- a number of bytes, as far as a refusal tells it
abbrev pub capped : ℕ → ℕ
capped n = min n (2 ^ 32 - 1)
