use Rattle.linear_solve.proofs.Shared.{◌≡◌, ◌+◌, ◌++◌, length, drop, entries_of}
use Rattle.linear_solve.proofs.row.Row.behind.Given as goal

abbrev pub invariant-loop-at : goal.invariant-loop-at
invariant-loop-at g l = record {
  made : entries_of l.rest ++ drop l.at (entries_of l.self) ≡ drop l.from (entries_of l.self);
  long : length (entries_of l.rest) + l.from ≡ l.at;
}
