use Rattle.linear_solve.proofs.Shared.{◌≡◌, length, take, entries_of}
use Rattle.linear_solve.proofs.equations.widened.Given as goal

abbrev pub invariant-loop-at : goal.invariant-loop-at
invariant-loop-at l = record {
  made : entries_of l.wide ≡ take l.at (entries_of l.row);
  long : length (entries_of l.wide) ≡ l.at;
}
