-- What a clause sees of the breakers of a held session.
use Rattle.breakers.specs.{State.{State}, CountBreaker.{state_of as state_of_count}}
use Rattle.poincare_held.specs.{Stopping.{state_of as state_of_stop}, declared.held_breaker.HeldBreaker.{HeldBreaker}, declared.held_breaker.HeldBreaker.TheVariants.{Stop, Count}}

abbrev pub state_of : HeldBreaker → State
state_of (Stop breaker) = state_of_stop breaker
state_of (Count breaker) = state_of_count breaker
