-- What a clause sees of a breaker with a flag.
use Rattle.std.specs.Prelude.{false}
use Rattle.breakers.specs.{State.{State}, declared.breaker.Plan.TheVariants.{Untold}}
use Rattle.callers.specs.declared.flag_breaker.FlagBreaker.{FlagBreaker}

-- it tells nothing of its coming polls, and can never be armed
abbrev pub state_of : FlagBreaker → State
state_of s = record { polls = s.polls; trips = s.trips; plan = Untold; can_be_armed = false }

-- its state before it is polled
abbrev pub silent : State
silent = record { polls = 0; trips = 0; plan = Untold; can_be_armed = false }
