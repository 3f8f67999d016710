-- Marks on a pool that stands for trees, and what a pool is at a moment.
use Rattle.std.specs.Prelude.{ℕ, ◌≡◌, true}
use Rattle.node_pool.specs.{Nodes.{used, place_of}, State.{State, bytes_of}}
use Rattle.tree_handles.specs.{Forest.{Forest, bytes_in}, Handed.{Starts}, Inside.{holds}, Standing.{forest}}

-- these trees stand first, and their bytes end at the mark
pub record IsBelow (mark : ℕ) (first f : Forest) : Type 0 where
  pub starts : Starts first f
  pub bytes : mark ≡ bytes_in first

-- a pool is again as it was: its bytes, how many of them are used, and where each node begins
pub record IsRestored (before now : State) : Type 0 where
  pub used : used now.nodes ≡ used before.nodes
  pub bytes : bytes_of now ≡ bytes_of before
  pub places : (id : ℕ) → holds id (forest before) ≡ true → place_of id now.nodes ≡ place_of id before.nodes
