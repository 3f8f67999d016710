-- The whole calculation: the rows of the equations, elimination, and the answer.
use Rattle.std.specs.Prelude.{ℕ, List, [], length, Result}
use Rattle.linear_solve.specs.{Fitting.{Misfit, and_then}, Sides.{Names}, Equations.{Equation}, Elimination.{Rows, equation_rows, settled_up_to}, Rows.{Row}, Forms.{Answer, answer_of}}

-- the rows before a name is taken
abbrev pub rows_at_first : List Row → Rows
rows_at_first rows = record { pivots = []; left = rows }

-- what the rows of equations in so many names say
abbrev pub rows_solved : ℕ → List Row → Result Answer Misfit
rows_solved names rows = and_then (settled_up_to names (rows_at_first rows)) (λ s. answer_of names s)

unfoldable pub solving : Names → List Equation → Result Answer Misfit
solving xs es = and_then (equation_rows xs es) (λ rows. rows_solved (length xs) rows)
