-- Whole texts of lines.
use Rattle.std.specs.{Prelude.{ℕ, List, [], ◌∷◌, true, false}, Str.Lines.{strip_carriage_return}}
use Rattle.breakers.specs.State.{fresh}
use Rattle.calc_session.specs.{Replies.{Reply}, States.{first_state}}
use Rattle.node_pool.specs.State.{IsPoolSize}
use Rattle.poincare_run.specs.{Lines.{lines_of}, Steps.{LineStep, Moment, Steps, Transcript, written}}
use Rattle.poincare_held.specs.{Pages.{IsFront}, Sessions.{breakers_in, state_in}, Writing.{Writes}, declared.held.Held.{Held}, declared.page.Page.{Page}}

-- between two lines, where pictures are drawn only when a line asks for them
abbrev pub moment_of : Held → Moment
moment_of h = record { state = state_in h; breakers = breakers_in h; draws = false }

-- how a text of lines begins: as the program does
abbrev pub beginning : ℕ → Moment
beginning size = record { state = first_state size; breakers = fresh true ∷ fresh true ∷ []; draws = false }

-- a line, which may end in a carriage return, is answered, and the answer is written
pub record AnswersLine (old : Held) (line : List ℕ) (page : Page) (new : Held) (page' : Page) : Type 0 where
  pub reply : Reply
  pub step : LineStep (moment_of old) (strip_carriage_return line) reply (moment_of new)
  pub writes : Writes page (written reply (moment_of new)) page'

-- the lines of a text are answered, and the answers are written
pub record AnswersLines (old : Held) (lines : List (List ℕ)) (page : Page) (new : Held) (page' : Page) : Type 0 where
  pub out : List ℕ
  pub steps : Steps (moment_of old) lines out (moment_of new)
  pub writes : Writes page out page'

-- the answers to the lines of a text, from the beginning on, stand at the front of the memory, and this is their count
pub record AreAnswered (size : ℕ) (lines : List ℕ) (count : ℕ) (memory : List ℕ) : Type 0 where
  pub size_is : IsPoolSize size
  pub text : List ℕ
  pub transcript : Transcript (beginning size) (lines_of lines) text
  pub written : IsFront count text memory
