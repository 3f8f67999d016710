use Rattle.linear_solve.proofs.Shared.{◌≡◌, length, take, Ok, zip, Fraction, each, sum_of, entries_of}
use Rattle.linear_solve.proofs.row.Row.plus.Given as goal

abbrev pub invariant-loop-at : goal.invariant-loop-at
invariant-loop-at g l = record {
  made : each (λ (p : Fraction × Fraction). sum_of p.0 p.1) (take l.at (zip (entries_of l.self) (entries_of l.other))) ≡ Ok (entries_of l.sums);
  long : length (entries_of l.sums) ≡ l.at;
}
