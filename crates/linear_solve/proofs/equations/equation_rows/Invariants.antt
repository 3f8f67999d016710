use Rattle.std.proofs.Common.{◌≡◌, ℕ, Ok, length, map, take}
use Rattle.linear_solve.proofs.{Shared.{enumerate_from, CalmChecks, states, name_of, equation_row, Equation, equations_in, each, entries_of, forest}, CheckCounts.{first_checks}}
use Rattle.linear_solve.proofs.equations.equation_rows.Given as goal

abbrev pub invariant-loop-at : goal.invariant-loop-at
invariant-loop-at g l = record {
  made : each (λ (p : ℕ × Equation). equation_row (map name_of l.fn.names) (length (equations_in (forest l.fn.pool) l.fn.left l.fn.right)) p.0 p.1)
      (take l.at (enumerate_from 0 (equations_in (forest l.fn.pool) l.fn.left l.fn.right))) ≡ Ok (map entries_of l.rows.items);
  long : length l.rows.items ≡ l.at;
  checks : CalmChecks (first_checks (map name_of l.fn.names) (equations_in (forest l.fn.pool) l.fn.left l.fn.right) l.at) (states g.B.Breaker.state l.fn.watch) (states g.B.Breaker.state l.watch);
}
