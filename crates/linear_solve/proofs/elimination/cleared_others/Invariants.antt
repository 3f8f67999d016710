use Rattle.linear_solve.proofs.Shared.{◌≡◌, ◌+◌, ◌-◌, Ok, length, map, take, cleared, others, each, entries_of}
use Rattle.linear_solve.proofs.elimination.cleared_others.Given as goal

abbrev pub invariant-loop-place : goal.invariant-loop-place
invariant-loop-place l = record {
  made : each (cleared l.name (entries_of l.pivot)) (take (l.place - 1) (others l.at (map entries_of l.rows))) ≡ Ok (map entries_of l.left.items);
  long : length l.left.items + 1 ≡ l.place;
}
