use Rattle.linear_solve.proofs.Shared.{take, true, names_listed, Includes, Rises, names_at, forest}
use Rattle.linear_solve.proofs.side_names.include_all.Given as goal

abbrev pub invariant-loop-at : goal.invariant-loop-at
invariant-loop-at l = record {
  rises : Rises (names_listed l.names.items);
  included : Includes (names_at (forest l.pool) (take l.at l.roots)) (names_listed l.fn.names.items) (names_listed l.names.items) true;
}
