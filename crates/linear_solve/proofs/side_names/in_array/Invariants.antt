use Rattle.linear_solve.proofs.Shared.{◌≡◌, length, map, take, name_of, names_listed}
use Rattle.linear_solve.proofs.side_names.in_array.Given as goal

abbrev pub invariant-loop-at : goal.invariant-loop-at
invariant-loop-at l = record { long : length l.array ≡ 6; same : map name_of (take l.at l.array) ≡ names_listed (take l.at l.fn.names) }
