-- What a pool is to its callers.
use Rattle.std.specs.Prelude.{ℕ, ◌^◌, ◌≡◌, ◌%◌, min, ◌-◌, ◌+◌, ◌≤◌, List, ◌++◌, replicate}
use Rattle.calc_terms.specs.Node.{Node}
use Rattle.node_pool.specs.{declared.full.Full.{Full}, Nodes.{used, encodings, AreNodes, AreDistinct}}

-- its nodes in the order of their bytes, its capacity, and what it refused
pub record State : Type 0 where
  pub nodes : List Node
  pub size : ℕ
  pub refusals : ℕ
  pub last_refused : Full

abbrev pub free_of : State → ℕ
free_of s = s.size - used s.nodes

-- all bytes: those of the nodes, and then zeros
abbrev pub bytes_of : State → List ℕ
bytes_of s = encodings s.nodes ++ replicate (free_of s) 0

-- a capacity that a pool may have
pub record IsPoolSize (size : ℕ) : Type 0 where
  pub least : 64 ≤ size
  pub most : size ≤ 524280
  pub eights : size % 8 ≡ 0

-- what every pool keeps
pub record IsPool (s : State) : Type 0 where
  pub nodes : AreNodes s.nodes
  pub distinct : AreDistinct s.nodes
  pub fits : used s.nodes ≤ s.size
  pub size : IsPoolSize s.size

-- the refusal is counted and kept, and nothing else changes
abbrev pub refused : State → Full → State
refused s full = record s { refusals = min (s.refusals + 1) (2 ^ 64 - 1); last_refused = full }
