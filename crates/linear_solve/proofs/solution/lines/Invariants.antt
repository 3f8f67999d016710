use Rattle.linear_solve.proofs.Shared.{◌≡◌, length, map, take, forms_of, form_told, pivot_of}
use Rattle.linear_solve.proofs.solution.lines.Given as goal

abbrev pub invariant-loop-at : goal.invariant-loop-at
invariant-loop-at l = record {
  made : map form_told l.lines.items ≡ take l.at (forms_of l.names (map pivot_of l.pivots));
  long : length l.lines.items ≡ l.at;
}
