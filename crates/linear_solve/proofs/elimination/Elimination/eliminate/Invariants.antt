use Rattle.linear_solve.proofs.Shared.{◌≡◌, Ok, length, CalmChecks, states, settled_up_to, rows_told}
use Rattle.linear_solve.proofs.elimination.Elimination.eliminate.Given as goal

abbrev pub invariant-loop-name : goal.invariant-loop-name
invariant-loop-name g l = record {
  reached : settled_up_to l.name (rows_told l.fn.self) ≡ Ok (rows_told l.self);
  long : length (rows_told l.self).pivots ≡ l.name;
  checks : CalmChecks l.name (states g.B.Breaker.state l.fn.watch) (states g.B.Breaker.state l.watch);
}
