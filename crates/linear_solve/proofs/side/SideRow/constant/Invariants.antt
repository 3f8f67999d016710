use Rattle.linear_solve.proofs.Shared.{◌≡◌, ℕ, List, length, map, take, zero_fraction, name_of, entries_of}
use Rattle.linear_solve.proofs.side.SideRow.constant.Given as goal

abbrev pub invariant-loop : goal.invariant-loop
invariant-loop l = record {
  made : entries_of l.row ≡ map (λ (x : List ℕ). zero_fraction) (take l.index (map name_of l.names));
  long : length (entries_of l.row) ≡ l.index;
}
