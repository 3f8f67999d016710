-- The list that a clause sees of a watch.
use Rattle.std.specs.Prelude.{List, map}
use Rattle.breakers.specs.{State.{State}, declared.watch.Watch.{Watch}}

-- the states of a watch's breakers, in their order
abbrev pub states : {B : Type 0} → (B → State) → Watch B → List State
states state w = map state w.breakers.items
