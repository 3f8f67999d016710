use Rattle.linear_solve.proofs.Shared.{◌≡◌, Ok, length, map, take, cleared_pivot, each, entries_of, pivot_of}
use Rattle.linear_solve.proofs.elimination.cleared_pivots.Given as goal

abbrev pub invariant-loop-other : goal.invariant-loop-other
invariant-loop-other l = record {
  made : each (cleared_pivot l.name (entries_of l.pivot)) (take l.other-index (map pivot_of l.pivots)) ≡ Ok (map pivot_of l.cleared.items);
  long : length l.cleared.items ≡ l.other-index;
}
