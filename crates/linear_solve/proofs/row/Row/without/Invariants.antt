use Rattle.linear_solve.proofs.Shared.{◌≡◌, length, take, Ok, zip, Fraction, negative, value_of, and_then, each, product_of, sum_of, entries_of}
use Rattle.linear_solve.proofs.row.Row.without.Given as goal

abbrev pub invariant-loop-at : goal.invariant-loop-at
invariant-loop-at g l = record {
  made : each (λ (p : Fraction × Fraction). and_then (product_of (negative (value_of l.fn.multiple)) p.1) (λ m. sum_of p.0 m))
      (take l.at (zip (entries_of l.self) (entries_of l.other))) ≡ Ok (entries_of l.rest);
  long : length (entries_of l.rest) ≡ l.at;
}
