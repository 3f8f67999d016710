-- A session as a chain of steps, one for each line.
use Rattle.std.specs.Prelude.{◌≡◌, ℕ, List, [], ◌∷◌, ◌++◌, map, Bool, true, false, if◌then◌else◌, Option, Some, None, Ok, Err}
use Rattle.breakers.specs.{Breakers.{kept}, State.{State as Breaker}}
use Rattle.calc_session.specs.{Drawing.{rows_in}, Replies.{Reply, shown, stored, drawn, refused, full, text_of}, States.{State}, Steps.{Step}}
use Rattle.calc_measures.specs.Measures.{room as room_of, bits as bits_of}
use Rattle.calc_terms.specs.Trees.{Tree}

-- between two lines: what the session keeps, the breakers that are watched, and whether what is shown is drawn too
pub record Moment : Type 0 where
  pub state : State
  pub breakers : List Breaker
  pub draws : Bool

-- the room of trees, within which the program's reducer has enough bytes, and the bits of trees, of which few keep it from overflowing
abbrev pub room : Option (Tree → ℕ)
room = Some room_of

abbrev pub bits : Option (Tree → ℕ)
bits = Some bits_of

-- At a moment a line is answered by a reply. At the next one the breakers that have tripped are gone.
pub record LineStep (old : Moment) (line : List ℕ) (reply : Reply) (new : Moment) : Type 0 where
  pub checked : List Breaker
  pub step : Step room bits old.state old.breakers line reply new.state checked
  pub swept : new.breakers ≡ kept checked
  pub same : new.draws ≡ old.draws

-- a line's reply, and the moment behind it
pub record Turn : Type 0 where
  pub reply : Reply
  pub after : Moment

abbrev pub replies_of : List Turn → List Reply
replies_of turns = map (λ t. t.reply) turns

-- the lines are answered in these turns, one after the other from the old moment to the new one
abbrev pub Chain : Moment → List (List ℕ) → List Turn → Moment → Type 0
Chain old [] turns new = (turns ≡ []) × (new ≡ old)
Chain old (line ∷ lines) turns new =
    (turn : Turn) × (rest : List Turn) × LineStep old line turn.reply turn.after × (turns ≡ turn ∷ rest) × Chain turn.after lines rest new

-- ---- what is written

-- a text with a newline behind it
abbrev pub with_newline : Option (List ℕ) → List ℕ
with_newline None = []
with_newline (Some text) = text ++ 10 ∷ []

-- the picture of the last answer: its rows, or that its layout finds no room
abbrev pub picture_text : State → List ℕ
picture_text s = elim (rows_in s) [ Ok rows ↦ rows | Err refusal ↦ with_newline (text_of (refused (full refusal))) ]

abbrev pub picture_if : Bool → State → List ℕ
picture_if draws s = if draws then picture_text s else []

-- the last answer is drawn where a line asks for it, and below what is shown or stored where pictures are wanted
abbrev pub is_drawn : Bool → Reply → Bool
is_drawn draws (shown t) = draws
is_drawn draws (stored t x) = draws
is_drawn draws drawn = true
is_drawn draws reply = false

-- what is written for a reply, at the moment behind it
abbrev pub written : Reply → Moment → List ℕ
written reply now = with_newline (text_of reply) ++ picture_if (is_drawn now.draws reply) now.state

abbrev pub all_written : List Turn → List ℕ
all_written [] = []
all_written (turn ∷ turns) = written turn.reply turn.after ++ all_written turns

-- the lines are answered from the old moment to the new one, and out is what is written
pub record Steps (old : Moment) (lines : List (List ℕ)) (out : List ℕ) (new : Moment) : Type 0 where
  pub turns : List Turn
  pub chain : Chain old lines turns new
  pub out_is : out ≡ all_written turns

-- what is written for the lines of a session that begins at this moment
abbrev pub Transcript : Moment → List (List ℕ) → List ℕ → Type 0
Transcript start lines out = (end : Moment) × Steps start lines out end
