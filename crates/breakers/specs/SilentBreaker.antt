-- What a clause sees of a silent breaker.
use Rattle.std.specs.Prelude.{ℕ, ◌<◌, List, Contains, false}
use Rattle.breakers.specs.{State.{State, count_on, largest_count}, declared.breaker.Plan.TheVariants.{Untold}, declared.silent_breaker.SilentBreaker.{SilentBreaker}}

-- it tells nothing of its coming polls, and can never be armed
abbrev pub state_of : SilentBreaker → State
state_of s = record { polls = s.polls; trips = s.trips; plan = Untold; can_be_armed = false }

-- its state before it is polled
abbrev pub silent : State
silent = record { polls = 0; trips = 0; plan = Untold; can_be_armed = false }

-- the numbers of the polls at which it trips, counted from 1
abbrev pub tripping : SilentBreaker → List ℕ
tripping s = s.at.items

-- the next poll trips: its number stands among these, and one more trip can be counted
abbrev pub TripsNext : List ℕ → State → Type 0
TripsNext numbers b = (b.trips < largest_count) × Contains numbers (count_on b.polls)
