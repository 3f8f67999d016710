use Rattle.linear_solve.proofs.Shared.{◌≡◌, length, map, take, negative, entries_of}
use Rattle.linear_solve.proofs.row.Row.negated.Given as goal

abbrev pub invariant-loop-at : goal.invariant-loop-at
invariant-loop-at g l = record {
  made : entries_of l.opposites ≡ map negative (take l.at (entries_of l.self));
  long : length (entries_of l.opposites) ≡ l.at;
}
