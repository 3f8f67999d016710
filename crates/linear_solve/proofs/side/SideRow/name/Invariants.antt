use Rattle.std.proofs.Common.{◌≡◌, length, map, take, if◌then◌else◌}
use Rattle.linear_solve.proofs.Shared.{bytes_eq, one_fraction, zero_fraction, name_of, entries_of}
use Rattle.linear_solve.proofs.side.SideRow.name.Given as goal

abbrev pub invariant-loop-other : goal.invariant-loop-other
invariant-loop-other l = record {
  made : entries_of l.row ≡ map (λ y. if bytes_eq y (name_of l.fn.name) then one_fraction else zero_fraction) (take l.other-index (map name_of l.names));
  long : length (entries_of l.row) ≡ l.other-index;
}
