-- What is answered by the code, as what the definitions answer.
use Rattle.std.specs.Prelude.{List, map, Result, Ok, Err, ⊤}
use Rattle.calc_terms.specs.Rat.{value_of}
use Rattle.linear_solve.specs.{declared.fault.SolveFault.{SolveFault}, declared.solution.Line.{Line}}
use Rattle.linear_solve.specs.declared.solution.Line.TheVariants as line
use Rattle.linear_solve.specs.declared.solution.Solution.{Solution}
use Rattle.linear_solve.specs.declared.solution.Solution.TheVariants as solution
use Rattle.linear_solve.specs.{Forms.{Form, free, bound, Answer, never, solved}, Rows.{Row}, Told.{entries_of}}

abbrev pub form_told : Line → Form
form_told line.Free = free
form_told (line.Bound constant coefs) = bound (value_of constant) (entries_of coefs)

abbrev pub answer_told : Solution → Answer
answer_told (solution.Never multipliers) = never (entries_of multipliers)
answer_told (solution.Solved lines) = solved (map form_told lines.items)

-- a fact of the forms, where there are such
abbrev pub IfSolved : Result Solution SolveFault → (List Form → Type 0) → Type 0
IfSolved (Ok (solution.Solved lines)) P = P (map form_told lines.items)
IfSolved (Ok (solution.Never multipliers)) P = ⊤
IfSolved (Err fault) P = ⊤

-- and of the multipliers
abbrev pub IfNever : Result Solution SolveFault → (Row → Type 0) → Type 0
IfNever (Ok (solution.Solved lines)) P = ⊤
IfNever (Ok (solution.Never multipliers)) P = P (entries_of multipliers)
IfNever (Err fault) P = ⊤
