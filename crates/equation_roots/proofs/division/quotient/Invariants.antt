use Rattle.std.proofs.Common.{◌≡◌, ◌<◌, ◌^◌, length, nat_abs}
use Rattle.equation_roots.specs.{Told.{wholes_of}, Wholes.{read}}
use Rattle.equation_roots.proofs.Dividing.{Started}
use Rattle.equation_roots.proofs.division.quotient.Given as goal

abbrev pub invariant-loop-at : goal.invariant-loop-at
invariant-loop-at l = record {
  started : Started l.fn.a l.fn.b (read l.fn.backward (wholes_of l.p)) (wholes_of l.quotient) l.last l.at;
  long : length (wholes_of l.quotient) ≡ l.at;
  fits : nat_abs l.last < 2 ^ 127;
}
