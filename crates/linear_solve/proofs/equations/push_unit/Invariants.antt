use Rattle.linear_solve.proofs.Shared.{◌≡◌, ◌++◌, take, unit, entries_of}
use Rattle.linear_solve.proofs.equations.push_unit.Given as goal

abbrev pub invariant-loop-at : goal.invariant-loop-at
invariant-loop-at l = entries_of l.row ≡ entries_of l.fn.row ++ take l.at (unit l.equations l.own)
