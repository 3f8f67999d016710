-- What calls do to slots.
use Rattle.std.specs.Prelude.{◌≡◌, ◌↔◌, ⊤, ℕ, List, [], length}
use Rattle.breakers.specs.Breakers.{TripsRose}
use Rattle.calc_session.specs.{Answers.{Answers}, declared.answers.LineAnswer.{LineAnswer}, declared.answers.LineAnswer.TheVariants.{Refused}, declared.answers.Refusal.TheVariants.{Interrupted}}
use Rattle.node_pool.specs.State.{IsPoolSize}
use Rattle.poincare_run.specs.Steps.{bits, room}
use Rattle.poincare_held.specs.{Pages.{over}, Sessions.{IsAnsweredWithin, IsDrawnOn, IsOpened, IsSilent, breakers_in, pool_use_in, state_in, text_in}, declared.held.Drawn.{Drawn}, declared.held.Held.{Held}}
use Rattle.poincare_held.specs.declared.stopper.Stopper.{Stopper}
use Rattle.poincare_c.specs.{Codes.{bad_pool, closed, code_of_answer, code_of_count, code_of_drawn, count_of_drawn, done, no_memory, not_opened, open_already}, Standings.{Changes, ClosesStanding}}
use Rattle.poincare_c.specs.{declared.slot.Slot.{Slot}, declared.stopper_slot.StopperSlot.{StopperSlot}, declared.standing.Standing.{Standing}}
use Rattle.poincare_c.specs.declared.standing.Standing.TheVariants.{New, Open, Closed}

-- ---- slots

-- nothing was opened in it
abbrev pub IsNew : Slot → Type 0
IsNew slot = slot.standing ≡ New

abbrev pub IsNewStopper : StopperSlot → Type 0
IsNewStopper slot = slot.standing ≡ New

-- ---- sessions

-- a session was opened, or it says why not, and the slot stays as it was
pub data IsOpening (pool : ℕ) (old : Standing Held) : ℕ → Standing Held → Type 0 where
  opens : {held : Held} → IsOpened pool held → IsOpening pool old done (Open held)
  has_bad_size : ¬ IsPoolSize pool → IsOpening pool old bad_pool old
  has_no_memory : IsPoolSize pool → IsOpening pool old no_memory old

abbrev pub OpensStanding : Standing Held → ℕ → ℕ → Standing Held → Type 0
OpensStanding (Open held) pool code new = (code ≡ open_already) × (new ≡ Open held)
OpensStanding old pool code new = IsOpening pool old code new

abbrev pub Opens : Slot → ℕ → ℕ → Slot → Type 0
Opens old pool code new = OpensStanding old.standing pool code new.standing

abbrev pub Closes : Slot → ℕ → Slot → Type 0
Closes old code new = ClosesStanding old.standing code new.standing

-- A line is answered by one step of the model, and this is the number of the answer. It is interrupted exactly where trips rose.
pub record IsAnswered (line : List ℕ) (code : ℕ) (old new : Held) : Type 0 where
  pub answer : LineAnswer
  pub step : Answers room bits (state_in old) (breakers_in old) line answer (text_in new) (state_in new) (breakers_in new)
  pub interrupted : (place : ℕ) → (answer ≡ Refused (Interrupted place)) ↔ TripsRose (breakers_in old) (breakers_in new) place
  pub silent : IsSilent answer (text_in new)
  pub code_is : code ≡ code_of_answer answer

abbrev pub AnswersIn : Slot → List ℕ → ℕ → Slot → Type 0
AnswersIn old line code new = Changes old.standing code new.standing (IsAnswered line code) ⊤

-- the same under a count
pub record IsAnsweredUnder (line : List ℕ) (checks code : ℕ) (old new : Held) : Type 0 where
  pub answer : LineAnswer
  pub within : IsAnsweredWithin checks old line answer new
  pub code_is : code ≡ code_of_answer answer

abbrev pub AnswersWithinIn : Slot → List ℕ → ℕ → ℕ → Slot → Type 0
AnswersWithinIn old line checks code new = Changes old.standing code new.standing (IsAnsweredUnder line checks code) ⊤

-- the text of the last line stands at the front of the memory, as far as there is room, and this is its length; nothing changes in the session
pub record IsTold (out out' : List ℕ) (count code : ℕ) (old new : Held) : Type 0 where
  pub same : new ≡ old
  pub code_is : code ≡ code_of_count count (length out')
  pub count_is : count ≡ length (text_in old)
  pub out_is : out' ≡ over (text_in old) out

abbrev pub TextIn : Slot → List ℕ → ℕ → ℕ → List ℕ → ℕ → Slot → Type 0
TextIn old out count code out' count' new = Changes old.standing code new.standing (IsTold out out' count' code) ((out' ≡ out) × (count' ≡ count))

-- the picture of the last answer, or the line in its place, stands there, and what is stored is as before
pub record IsPictured (out' : List ℕ) (count code : ℕ) (old new : Held) : Type 0 where
  pub drawn : Drawn
  pub is_drawn : IsDrawnOn (state_in old) drawn out'
  pub count_is : count ≡ count_of_drawn drawn
  pub code_is : code ≡ code_of_drawn drawn (length out')
  pub state : state_in new ≡ state_in old
  pub text : text_in new ≡ []
  pub breakers : breakers_in new ≡ breakers_in old

abbrev pub Draws : Slot → List ℕ → ℕ → ℕ → List ℕ → ℕ → Slot → Type 0
Draws old out count code out' count' new = Changes old.standing code new.standing (IsPictured out' count' code) ((out' ≡ out) × (count' ≡ count))

-- so much of the pool is in use, and so much is left
pub record IsUsed (used left code : ℕ) (old new : Held) : Type 0 where
  pub same : new ≡ old
  pub code_is : code ≡ done
  pub used_is : used ≡ (pool_use_in old).used
  pub left_is : left ≡ (pool_use_in old).free

abbrev pub PoolIn : Slot → ℕ → ℕ → ℕ → ℕ → ℕ → Slot → Type 0
PoolIn old used left code used' left' new = Changes old.standing code new.standing (IsUsed used' left' code) ((used' ≡ used) × (left' ≡ left))

-- ---- stoppers

-- a stopper of the session was opened, or it says why not, and the slot stays as it was
pub data IsOpeningStopper (old : Standing Stopper) : Standing Held → ℕ → Standing Stopper → Type 0 where
  opens_stopper : {held : Held} {stopper : Stopper} → IsOpeningStopper old (Open held) done (Open stopper)
  has_no_room : {held : Held} → IsOpeningStopper old (Open held) no_memory old
  has_new_session : IsOpeningStopper old New not_opened old
  has_closed_session : IsOpeningStopper old Closed closed old

abbrev pub OpensStopperStanding : Standing Stopper → Standing Held → ℕ → Standing Stopper → Type 0
OpensStopperStanding (Open stopper) session code new = (code ≡ open_already) × (new ≡ Open stopper)
OpensStopperStanding old session code new = IsOpeningStopper old session code new

abbrev pub OpensStopper : StopperSlot → Slot → ℕ → StopperSlot → Slot → Type 0
OpensStopper old session code new session' = OpensStopperStanding old.standing session.standing code new.standing × (session' ≡ session)

-- an open stopper stays open
abbrev pub Stops : StopperSlot → ℕ → StopperSlot → Type 0
Stops old code new = Changes old.standing code new.standing (λ before after. code ≡ done) ⊤

abbrev pub ClosesStopper : StopperSlot → ℕ → StopperSlot → Type 0
ClosesStopper old code new = ClosesStanding old.standing code new.standing
