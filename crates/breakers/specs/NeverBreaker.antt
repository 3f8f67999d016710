-- What a clause sees of a breaker that never trips.
use Rattle.std.specs.Prelude.{false}
use Rattle.breakers.specs.{State.{State}, declared.breaker.Plan.TheVariants.{Idle}, declared.never_breaker.NeverBreaker.{NeverBreaker}}

-- it has no trips, is always idle, and can never be armed
abbrev pub state_of : NeverBreaker → State
state_of n = record { polls = n.polls; trips = 0; plan = Idle; can_be_armed = false }
