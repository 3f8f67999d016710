-- Held sessions as their callers see them.
use Rattle.std.specs.Prelude.{◌≡◌, ◌↔◌, ℕ, List, [], ◌∷◌, Ok, Err, true}
use Rattle.breakers.specs.{Breakers.{TripsRose, armed_first}, SilentBreaker.{silent}, State.{State as Breaker, fresh, largest_count}, Watch.{states}}
use Rattle.calc_session.specs.{Answers.{Answers}, Drawing.{rows_in}, States.{State, first_state, free_bytes}, declared.answers.LineAnswer.{LineAnswer}}
use Rattle.calc_session.specs.{declared.answers.LineAnswer.TheVariants.{Blank, Draw, Refused}, declared.answers.Refusal.TheVariants.{Interrupted}}
use Rattle.node_pool.specs.{Nodes.{used}, State.{IsPoolSize}, declared.full.Full.{Full}}
use Rattle.poincare_run.specs.Steps.{bits, room, picture_text}
use Rattle.poincare_held.specs.{Breaking.{state_of}, Pages.{IsFront}, declared.held.Drawn.{Drawn}}
use Rattle.poincare_held.specs.declared.held.Drawn.TheVariants as drawn
use Rattle.poincare_held.specs.{declared.held.Held.{Held}, declared.held.PoolUse.{PoolUse}}

-- what it keeps from line to line
abbrev pub state_in : Held → State
state_in h = h.session.state

-- the text of the last line
abbrev pub text_in : Held → List ℕ
text_in h = h.session.text

-- the breakers that its lines are under
abbrev pub breakers_in : Held → List Breaker
breakers_in h = states state_of h.watch

-- it was opened with a pool of so many bytes, under this breaker and one that counts
pub record IsOpenedUnder (first : Breaker) (size : ℕ) (held : Held) : Type 0 where
  pub size_is : IsPoolSize size
  pub state_is : state_in held ≡ first_state size
  pub text_is : text_in held ≡ []
  pub breakers_are : breakers_in held ≡ first ∷ fresh true ∷ []

-- the first breaker is the one that stoppers trip
abbrev pub IsOpened : ℕ → Held → Type 0
IsOpened size held = IsOpenedUnder silent size held

-- a blank line has no text, and neither has one that asks for a picture
pub record IsSilent (answer : LineAnswer) (text : List ℕ) : Type 0 where
  pub blank : answer ≡ Blank → text ≡ []
  pub draw : answer ≡ Draw → text ≡ []

-- A line is answered while the breaker that counts is armed with so many checks. It is interrupted exactly where trips rose, and then the count is over.
pub record IsAnsweredWithin (checks : ℕ) (old : Held) (line : List ℕ) (answer : LineAnswer) (new : Held) : Type 0 where
  pub checked : List Breaker
  pub step : Answers room bits (state_in old) (armed_first checks (breakers_in old)) line answer (text_in new) (state_in new) checked
  pub interrupted : (place : ℕ) → (answer ≡ Refused (Interrupted place)) ↔ TripsRose (armed_first checks (breakers_in old)) checked place
  pub silent : IsSilent answer (text_in new)
  pub ended : breakers_in new ≡ armed_first largest_count checked

-- the picture of the last answer stands at the front of the memory, or in its place that its layout finds no room
abbrev pub IsDrawnOn : State → Drawn → List ℕ → Type 0
IsDrawnOn s (drawn.Picture count) memory = (rows : List ℕ) × (rows_in s ≡ Ok rows) × IsFront count (picture_text s) memory
IsDrawnOn s (drawn.Full count) memory = (full : Full) × (rows_in s ≡ Err full) × IsFront count (picture_text s) memory

abbrev pub pool_use_in : Held → PoolUse
pool_use_in h = record { used = used (state_in h).nodes; free = free_bytes (state_in h) }
