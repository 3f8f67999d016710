-- What a clause sees of a breaker that stoppers trip.
use Rattle.std.specs.Prelude.{ℕ, false}
use Rattle.breakers.specs.{State.{State}, declared.breaker.Plan.TheVariants.{Untold}}
use Rattle.poincare_held.specs.declared.stopper.StopBreaker.{StopBreaker}

-- it tells nothing of its coming polls, and can never be armed
abbrev pub state_of : StopBreaker → State
state_of s = record { polls = s.polls; trips = s.trips; plan = Untold; can_be_armed = false }

-- how many stops it has met
abbrev pub met_by : StopBreaker → ℕ
met_by s = s.met
