-- The rows of an elimination under way.
use Rattle.std.specs.Prelude.{map}
use Rattle.linear_solve.specs.{declared.elimination.Elimination.{Elimination}, Elimination.{Rows}, Told.{entries_of, pivot_of}}

abbrev pub rows_told : Elimination → Rows
rows_told e = record { pivots = map pivot_of e.pivots.items; left = map entries_of e.left.items }
