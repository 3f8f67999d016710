-- Sinks that count bytes.
use Rattle.std.specs.Prelude.{◌≡◌, ℕ, ◌-◌, ◌^◌, min, List, [], length, false}
use Rattle.calc_session.specs.States.{first_state}
use Rattle.poincare_run.specs.{Lines.{lines_of}, Steps.{Moment, Transcript}}
use Rattle.callers.specs.declared.byte_meter.ByteMeter.{ByteMeter}

-- the bytes that went by
abbrev pub metered : ByteMeter → List ℕ
metered m = m.history.bytes

-- a session of the program that starts without words and without breakers
abbrev pub beginning : Moment
beginning = record { state = first_state 32768; breakers = []; draws = false }

-- the answers to the lines of this input have so many bytes, up to 2 ^ 64 - 1
pub record AreAnsweredIn (input : List ℕ) (count : ℕ) : Type 0 where
  pub text : List ℕ
  pub transcript : Transcript beginning (lines_of input) text
  pub count_is : count ≡ min (length text) (2 ^ 64 - 1)
