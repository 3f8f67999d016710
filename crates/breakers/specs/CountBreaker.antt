-- What a clause sees of a count breaker.
use Rattle.std.specs.Prelude.{true}
use Rattle.breakers.specs.{State.{State}, declared.count_breaker.CountBreaker.{CountBreaker}}

-- it can always be armed
abbrev pub state_of : CountBreaker → State
state_of c = record { polls = c.polls; trips = c.trips; plan = c.plan; can_be_armed = true }
