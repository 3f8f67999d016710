-- What is answered for equations.
use Rattle.std.specs.Prelude.{ℕ, ◌+◌, ◌≡◌, ◌≢◌, ◌<◌, List, map, length, drop, zip, ◌==◌, if◌then◌else◌, Option, Some, None, Result, Ok, slice_index_or, ⊤}
use Rattle.std.specs.List.{AllZip, range_with_len, enumerate_from}
use Rattle.calc_algebra.specs.{Meanings.{Assignment, IsAssignment, Means}, Surds.{surd_of}}
use Rattle.calc_terms.specs.Fractions.{Fraction, plus, negative, inverse, zero_fraction, one_fraction}
use Rattle.linear_solve.specs.{Fitting.{Misfit, and_then}, Rows.{Row, entry, scaled, worth}, Equations.{Equation, Assigns}, Elimination.{Rows, first_with, row_at}}

-- the form of a name: the name is free, or it is bound to a constant and multiples of the names
pub data Form : Type 0 where
  free : Form
  bound : Fraction → List Fraction → Form

-- multipliers of equations that no assignment solves, or a form for each name
pub data Answer : Type 0 where
  never : List Fraction → Answer
  solved : List Form → Answer

-- ---- what it says

-- where the names have these values, one of them has that of its form
abbrev pub HasItsValue : List Fraction → Form → Fraction → Type 0
HasItsValue vs free v = ⊤
HasItsValue vs (bound constant coefs) v = v ≡ plus constant (worth coefs vs)

-- and so has each
abbrev pub HaveTheirValues : List Form → List Fraction → Type 0
HaveTheirValues forms vs = AllZip (HasItsValue vs) forms vs

abbrev pub IsFree : Form → Type 0
IsFree free = ⊤
IsFree (bound constant coefs) = ⊥

-- the multiple of a name in a form
abbrev pub multiple_in : Form → ℕ → Fraction
multiple_in free at = zero_fraction
multiple_in (bound constant coefs) at = entry at coefs

-- forms hold only free names, which come after their own
abbrev pub HoldLaterFreeNames : List Form → Type 0
HoldLaterFreeNames forms = (i j : ℕ) → i < length forms → multiple_in (slice_index_or forms i free) j ≢ zero_fraction → (i < j) × (j < length forms) × IsFree (slice_index_or forms j free)

-- left minus right, for the values of two sides
abbrev pub differences : List Fraction → List Fraction → List Fraction
differences ls rs = map (λ (p : Fraction × Fraction). plus p.0 (negative p.1)) (zip ls rs)

-- the multipliers of left minus right come to 1, whatever the values of the names
abbrev pub ComeToOne : List Fraction → List (List ℕ) → List Equation → Type 0
ComeToOne cs xs es = (f : Assignment) (vs ls rs : List Fraction) → IsAssignment f → Assigns f xs vs
    → AllZip (λ e l. Means e.left f (surd_of l)) es ls → AllZip (λ e r. Means e.right f (surd_of r)) es rs
    → worth cs (differences ls rs) ≡ one_fraction

-- ---- how it is calculated

-- the entries of a row for the equations, divided by its constant
abbrev pub multipliers : ℕ → Row → Result Row Misfit
multipliers names r = scaled (inverse (entry names r)) (drop (names + 1) r)

-- what a pivot says of its name
abbrev pub form_of : ℕ → ℕ → Option Row → Form
form_of names at None = free
form_of names at (Some r) = bound (negative (entry names r)) (map (λ j. if j == at then zero_fraction else negative (entry j r)) (range_with_len 0 names))

abbrev pub forms_of : ℕ → List (Option Row) → List Form
forms_of names pivots = map (λ (p : ℕ × Option Row). form_of names p.0 p.1) (enumerate_from 0 pivots)

abbrev pub answer_with : ℕ → Option ℕ → Rows → Result Answer Misfit
answer_with names None s = Ok (solved (forms_of names s.pivots))
answer_with names (Some at) s = and_then (multipliers names (row_at at s.left)) (λ cs. Ok (never cs))

-- the rows that are left have no name: the first whose constant is not 0 shows that there is no solution
abbrev pub answer_of : ℕ → Rows → Result Answer Misfit
answer_of names s = answer_with names (first_with names s.left) s
