-- How the program begins, by its words and its breakers.
use Rattle.std.specs.{Prelude.{ℕ, List, map, Option, Some, None, ⊤, String, string_bytes}, Option.{option_map}}
use Rattle.breakers.specs.{Breakers.{armed_first}, State.{State as Breaker}}
use Rattle.calc_session.specs.States.{first_state}
use Rattle.poincare_run.specs.{declared.words.Options.{Options}, Options.{options_of}, Steps.{Moment}}

-- the first breaker that can be armed is armed where a number of polls is named
abbrev pub armed : Option ℕ → List Breaker → List Breaker
armed None bs = bs
armed (Some k) bs = armed_first k bs

-- a session begins with a pool of the named size, and what is shown is drawn where the words ask for it
abbrev pub first_moment : Options → List Breaker → Moment
first_moment o bs = record { state = first_state o.size; breakers = armed o.interrupt bs; draws = o.draw }

-- a session whose lines are read, or one whose lines are those of this number
pub data Beginning : Type 0 where
  reads : Moment → Beginning
  generates : Moment → ℕ → Beginning

abbrev pub begun : Moment → Option ℕ → Beginning
begun start None = reads start
begun start (Some n) = generates start n

abbrev pub beginning_with : List Breaker → Options → Beginning
beginning_with bs o = begun (first_moment o bs) o.generated

-- there is none where the words are no form of the command line
abbrev pub beginning : List (List ℕ) → List Breaker → Option Beginning
beginning words bs = option_map (beginning_with bs) (options_of words)

-- how the program begins, by the words and the breakers that it is handed
abbrev pub beginning_of : {Z B : Type 0} → (B → Breaker) → List (String Z) → List B → Option Beginning
beginning_of state words breakers = beginning (map string_bytes words) (map state breakers)

-- a fact of the moment from which lines are read
abbrev pub IfReads : Option Beginning → (Moment → Type 0) → Type 0
IfReads (Some (reads start)) P = P start
IfReads _ P = ⊤

-- a fact of the moment from which the lines of a number are answered
abbrev pub IfGenerates : Option Beginning → (Moment → ℕ → Type 0) → Type 0
IfGenerates (Some (generates start n)) P = P start n
IfGenerates _ P = ⊤
