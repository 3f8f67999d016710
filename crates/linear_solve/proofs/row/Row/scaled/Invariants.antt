use Rattle.linear_solve.proofs.Shared.{◌≡◌, length, take, Ok, value_of, each, product_of, entries_of}
use Rattle.linear_solve.proofs.row.Row.scaled.Given as goal

abbrev pub invariant-loop-at : goal.invariant-loop-at
invariant-loop-at g l = record {
  made : each (λ e. product_of e (value_of l.fn.factor)) (take l.at (entries_of l.self)) ≡ Ok (entries_of l.products);
  long : length (entries_of l.products) ≡ l.at;
}
