use Rattle.std.proofs.Common.{◌≡◌, ◌≢◌, ℕ, suc, get_or}
use Rattle.std.specs.declared.cmp.Ordering.TheVariants.{Less}
use Rattle.calc_terms.specs.{Fractions.{fraction_cmp, zero_fraction}, Rat.{value_of}}
use Rattle.equation_roots.specs.Rationals.{rationals_of}
use Rattle.equation_roots.proofs.rationals.Rationals.place.Given as goal

abbrev pub invariant-loop-at : goal.invariant-loop-at
invariant-loop-at l = (k : ℕ) → l.at ≡ suc k → fraction_cmp (value_of l.q) (get_or (rationals_of l.self) k zero_fraction) ≢ Less
