-- The numbers by which a C program is answered.
use Rattle.std.specs.Prelude.{ℕ, ◌+◌, nat_le, if◌then◌else◌}
use Rattle.calc_session.specs.{Answers.{number_of}, declared.answers.LineAnswer.{LineAnswer}, declared.answers.LineAnswer.TheVariants.{Blank, Shown, Stored, Undef, Report, Draw, Refused}}
use Rattle.poincare_held.specs.declared.held.Drawn.{Drawn}
use Rattle.poincare_held.specs.declared.held.Drawn.TheVariants as drawn
use Rattle.poincare_held.specs.{declared.held.OpenFault.{OpenFault}, declared.held.OpenFault.TheVariants.{PoolSize, NoMemory}}

-- the call did what it says
abbrev pub done : ℕ
done = 0

-- there is not room for all bytes
abbrev pub no_room : ℕ
no_room = 200

abbrev pub bad_pool : ℕ
bad_pool = 201

abbrev pub no_memory : ℕ
no_memory = 202

-- nothing was opened in the slot yet
abbrev pub not_opened : ℕ
not_opened = 203

-- what was opened in it is closed
abbrev pub closed : ℕ
closed = 204

-- something is open in it
abbrev pub open_already : ℕ
open_already = 205

-- what became of a line; a refusal has its number behind 100
abbrev pub code_of_answer : LineAnswer → ℕ
code_of_answer Shown = 0
code_of_answer Stored = 1
code_of_answer Undef = 2
code_of_answer Blank = 3
code_of_answer Report = 4
code_of_answer Draw = 5
code_of_answer (Refused refusal) = 100 + number_of refusal

abbrev pub code_of_fault : OpenFault → ℕ
code_of_fault PoolSize = bad_pool
code_of_fault NoMemory = no_memory

-- so many bytes, and room for so many
abbrev pub code_of_count : ℕ → ℕ → ℕ
code_of_count count room = if nat_le count room then done else no_room

-- a picture, with room for so many bytes, or the line in its place
abbrev pub code_of_drawn : Drawn → ℕ → ℕ
code_of_drawn (drawn.Picture count) room = code_of_count count room
code_of_drawn (drawn.Full count) room = 108

abbrev pub count_of_drawn : Drawn → ℕ
count_of_drawn (drawn.Picture count) = count
count_of_drawn (drawn.Full count) = count
