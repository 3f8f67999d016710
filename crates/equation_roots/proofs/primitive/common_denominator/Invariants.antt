use Rattle.std.proofs.Common.{ℕ, ◌<◌, ◌^◌, get_or}
use Rattle.std.specs.Int.{◌∣◌}
use Rattle.calc_terms.specs.Fractions.{zero_fraction}
use Rattle.equation_roots.specs.Told.{dense_in}
use Rattle.equation_roots.proofs.primitive.common_denominator.Given as goal

abbrev pub invariant-loop-q : goal.invariant-loop-q
invariant-loop-q l = record {
  common : (k : ℕ) → k < l.q-index → (get_or (dense_in l.coefficients) k zero_fraction).den ∣ l.common;
  least : (n : ℕ) → ((k : ℕ) → k < l.q-index → (get_or (dense_in l.coefficients) k zero_fraction).den ∣ n) → l.common ∣ n;
  positive : 0 < l.common;
  fits : l.common < 2 ^ 127;
}
