-- The first answer of a session.
use Rattle.std.specs.Prelude.{ℕ, List, []}
use Rattle.breakers.specs.State.{State as Breaker}
use Rattle.calc_session.specs.{Answers.{Answers}, States.{State, first_state}, declared.answers.LineAnswer.{LineAnswer}}
use Rattle.poincare_run.specs.Steps.{bits, room}

-- a line is answered so, with this text, in a session that has answered none and that no breaker watches
pub record IsFirstAnswer (line : List ℕ) (answer : LineAnswer) (text : List ℕ) : Type 0 where
  pub after : State
  pub checked : List Breaker
  pub answers : Answers room bits (first_state 32768) [] line answer text after checked
