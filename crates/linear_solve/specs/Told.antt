-- The values of the code as those of the definitions.
use Rattle.std.specs.Prelude.{ℕ, map, Option, Some, None, Result, Ok, Err}
use Rattle.calc_terms.specs.Rat.{value_of}
use Rattle.rational128.specs.{Refusals.{operation_of}, declared.overflow.Overflow.{Overflow}}
use Rattle.linear_solve.specs.{declared.row.Row.{Row as RowOfCode}, declared.side.SideRow.{SideRow}, Fitting.{Misfit}, Rows.{Row}, Sides.{Side}}

-- its entries
abbrev pub entries_of : {limit : ℕ} → RowOfCode limit → Row
entries_of r = map (λ e. value_of e.value) r.entries.items

abbrev pub side_of : SideRow → Side
side_of r = record { named = r.named; entries = entries_of r.row }

abbrev pub pivot_of : {limit : ℕ} → Option (RowOfCode limit) → Option Row
pivot_of None = None
pivot_of (Some r) = Some (entries_of r)

-- the operation with the values of its operands
abbrev pub misfit_of : Overflow → Misfit
misfit_of o = record { op = operation_of o.op; a = value_of o.a; b = value_of o.b }

-- the row, unless an operation did not fit
abbrev pub side_told : Result (Unit {0}) Overflow → SideRow → Result Side Misfit
side_told (Ok x) r = Ok (side_of r)
side_told (Err o) r = Err (misfit_of o)
