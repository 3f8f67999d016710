-- Elimination: the names are taken in order, and each row but its own loses the name.
use Rattle.std.specs.{Prelude.{ℕ, zero, suc, List, [], ◌∷◌, ◌++◌, length, drop, swap, position, slice_index_or, not, if◌then◌else◌, Option, Some, None, Result, Ok, replicate}, List.{enumerate_from}}
use Rattle.calc_terms.specs.Fractions.{inverse, is_zero_fraction, zero_fraction, one_fraction}
use Rattle.linear_solve.specs.{Fitting.{Misfit, and_then, each}, Rows.{Row, entry, added, negated, scaled, without}, Sides.{Names, row_of}, Equations.{Equation}}

-- 1 at a place, and 0 at the others of so many
abbrev pub unit : ℕ → ℕ → Row
unit zero at = []
unit (suc n) zero = one_fraction ∷ replicate n zero_fraction
unit (suc n) (suc at) = zero_fraction ∷ unit n at

-- left minus right
abbrev pub difference_of : Names → Equation → Result Row Misfit
difference_of xs e = and_then (row_of xs e.left) (λ l. and_then (row_of xs e.right) (λ r. added l.entries (negated r.entries)))

-- the row of one equation of so many: left minus right, and 1 for the equation itself
abbrev pub equation_row : Names → ℕ → ℕ → Equation → Result Row Misfit
equation_row xs count at e = and_then (difference_of xs e) (λ d. Ok (d ++ unit count at))

abbrev pub equation_rows : Names → List Equation → Result (List Row) Misfit
equation_rows xs es = each (λ (p : ℕ × Equation). equation_row xs (length es) p.0 p.1) (enumerate_from 0 es)

-- the rows while names are eliminated: for each name that was taken its pivot, where it has one, and the rows that are no pivots
pub record Rows : Type 0 where
  pub pivots : List (Option Row)
  pub left : List Row

-- the first row whose entry at a place is not 0
abbrev pub first_with : ℕ → List Row → Option ℕ
first_with at rs = position (λ r. not (is_zero_fraction (entry at r))) rs

-- the row without the name of a pivot, whose entry there is 1
abbrev pub cleared : ℕ → Row → Row → Result Row Misfit
cleared name pivot r = if is_zero_fraction (entry name r) then Ok r else without (entry name r) pivot r

abbrev pub cleared_pivot : ℕ → Row → Option Row → Result (Option Row) Misfit
cleared_pivot name pivot None = Ok None
cleared_pivot name pivot (Some r) = and_then (cleared name pivot r) (λ s. Ok (Some s))

-- the row at a place, and the others once it and the first have changed places
abbrev pub row_at : ℕ → List Row → Row
row_at at rs = slice_index_or rs at []

abbrev pub others : ℕ → List Row → List Row
others at rs = drop 1 (swap rs 0 at)

-- the row at a place, divided by its entry for the name, becomes the name's pivot, and the name goes from each other row
abbrev pub settled_by : ℕ → ℕ → Rows → Result Rows Misfit
settled_by name at s = and_then (scaled (inverse (entry name (row_at at s.left))) (row_at at s.left)) (λ pivot.
    and_then (each (cleared_pivot name pivot) s.pivots) (λ ps.
    and_then (each (cleared name pivot) (others at s.left)) (λ rs.
    Ok (record { pivots = ps ++ Some pivot ∷ []; left = rs }))))

abbrev pub settled_at : ℕ → Option ℕ → Rows → Result Rows Misfit
settled_at name None s = Ok (record s { pivots = s.pivots ++ None ∷ [] })
settled_at name (Some at) s = settled_by name at s

-- the next name is taken: its pivot is the first row that is left and has it
abbrev pub settled : ℕ → Rows → Result Rows Misfit
settled name s = settled_at name (first_with name s.left) s

-- the first names are taken, so many
abbrev pub settled_up_to : ℕ → Rows → Result Rows Misfit
settled_up_to zero s = Ok s
settled_up_to (suc n) s = and_then (settled_up_to n s) (λ t. settled n t)
