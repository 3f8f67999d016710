-- A pool's fields.
use Rattle.std.specs.Prelude.{◌≡◌, ◌/◌, length}
use Rattle.node_pool.specs.{declared.pool.Pool.TheInside.{Inside}, State.{State, IsPool}, Flags.{AreFlagsOf}, Noted.{ArePlacesOf}}

abbrev pub state_of : Inside → State
state_of p = record { nodes = p.buffer.nodes; size = p.buffer.size; refusals = p.refusals; last_refused = p.last_refused }

-- an identifier for each eight bytes, since no node is smaller
pub record IsKept (p : Inside) : Type 0 where
  pub pool : IsPool (state_of p)
  pub flags : AreFlagsOf p.buffer.nodes p.taken
  pub places : ArePlacesOf p.buffer.nodes p.places
  pub flags_length : length p.taken ≡ p.buffer.size / 8
  pub places_length : length p.places ≡ p.buffer.size / 8
