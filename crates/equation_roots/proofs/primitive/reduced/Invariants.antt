use Rattle.std.proofs.Common.{◌≡◌, ◌*ℤ◌, map, take, length}
use Rattle.calc_terms.specs.Ratio.{with_sign}
use Rattle.equation_roots.specs.Told.{wholes_of}
use Rattle.equation_roots.proofs.primitive.reduced.Given as goal

abbrev pub invariant-loop-at : goal.invariant-loop-at
invariant-loop-at l = record {
  made : map (λ z. with_sign l.fn.turned l.fn.shared *ℤ z) (wholes_of l.quotients) ≡ take l.at (wholes_of l.wholes);
  long : length (wholes_of l.quotients) ≡ l.at;
}
