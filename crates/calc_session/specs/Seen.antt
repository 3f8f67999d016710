-- A session as its callers see it.
use Rattle.std.specs.Prelude.{ℕ, ◌≡◌, ◌+◌, ◌-◌, ◌^◌, min, List, Option, Some, None}
use Rattle.node_pool.specs.{declared.full.Full.{Full}, State.{State as PoolState}}
use Rattle.calc_session.specs.States.{State}

-- what is kept, what the pool refused, and the text of the last line
pub record Seen : Type 0 where
  pub state : State
  pub refusals : ℕ
  pub last_refused : Full
  pub text : List ℕ

-- the pool of a session
abbrev pub pool_of : Seen → PoolState
pool_of s = record { nodes = s.state.nodes; size = s.state.size; refusals = s.refusals; last_refused = s.last_refused }

-- a refusal is counted, up to 2^64 - 1, and kept as the last one; where there is none, both stay the same
abbrev pub Counts : Option Full → Seen → Seen → Type 0
Counts (Some refusal) old new = (new.refusals ≡ min (old.refusals + 1) (2 ^ 64 - 1)) × (new.last_refused ≡ refusal)
Counts None old new = (new.refusals ≡ old.refusals) × (new.last_refused ≡ old.last_refused)
