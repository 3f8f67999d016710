-- A pool that stands for a forest.
use Rattle.std.specs.Prelude.{ℕ, ◌≡◌, ◌≤◌, ◌<◌}
use Rattle.node_pool.specs.{declared.full.Full.{Full}, State.{State, IsPool, free_of, refused}}
use Rattle.tree_handles.specs.Forest.{Label, Forest, flatten, forest_of, AllNodes}

-- the forest for which a pool stands
abbrev pub forest : State → Forest
forest s = forest_of s.nodes

-- a node that is held
abbrev pub IsCounted : Label → ℕ → Type 0
IsCounted l n = 1 ≤ l.count

-- the pool's nodes are those of the forest in prefix order, and each count is at least 1
pub record Stands (s : State) : Type 0 where
  pub flat : s.nodes ≡ flatten (forest s)
  pub pool : IsPool s
  pub counted : AllNodes IsCounted (forest s)

-- nothing changed but nodes: the size, the number of refusals and the last refusal are as before
pub record KeepsRefusals (old new : State) : Type 0 where
  pub size : new.size ≡ old.size
  pub refusals : new.refusals ≡ old.refusals
  pub last_refused : new.last_refused ≡ old.last_refused

-- one more refusal was counted, and it is the last one
pub record Refuses (old new : State) (full : Full) : Type 0 where
  pub size : new.size ≡ old.size
  pub refusals : new.refusals ≡ (refused old full).refusals
  pub last_refused : new.last_refused ≡ full

-- more bytes are needed than are free now
pub record LacksBytes (now : State) (full : Full) : Type 0 where
  pub free : full.free ≡ free_of now
  pub lacking : full.free < full.needed

-- a call was refused: the refusal says how many bytes it needed and how many were free, and nothing changed
pub record IsRefused (needed : ℕ) (old new : State) (full : Full) : Type 0 where
  pub told : full ≡ record { needed = needed; free = free_of old }
  pub state : new ≡ refused old full
  pub same : forest new ≡ forest old
  pub refuses : Refuses old new full
  pub lacks : LacksBytes new full
