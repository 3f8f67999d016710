-- Where the bound on numerators is 0, that on denominators is.
use Rattle.calc_measures.proofs.Shared.{◌≡◌, ℤ, Option, refl, arith, mul-le, whole_literal, half_literal, or_literal, HighLow, power_bounds, bounds, bounds_of_terms, bounds_of_factors, high}
use Rattle.calc_measures.proofs.Shared.{low, Tree, add, mult, power, root, neg, div, Trees, none, more}

zero_power : (m : Option ℤ) (b : HighLow) → (b.high ≡ 0 → b.low ≡ 0) → (power_bounds m b).high ≡ 0 → (power_bounds m b).low ≡ 0
zero_power m b h k = grind (arith, mul-le)

mutual
  pub zero_high : (t : Tree) → high t ≡ 0 → low t ≡ 0
  zero_high (add ts) e = zero_terms ts (omega (arith, e))
  zero_high (mult ts) e = zero_factors ts e
  zero_high (power b f) e = zero_power (or_literal (whole_literal f) (half_literal f)) (bounds b) (zero_high b) e
  zero_high (root a) e = zero_high a e
  zero_high (neg a) e = zero_high a e
  zero_high (div a b) e = omega (arith, e, zero_high a (omega (arith, e)))
  zero_high t e = absurd (omega (arith, e))

  zero_terms : (ts : Trees) → (bounds_of_terms ts).high ≡ 0 → (bounds_of_terms ts).low ≡ 0
  zero_terms none e = refl
  zero_terms (more t ts) e = omega (arith, zero_high t (omega (arith, e)), zero_terms ts (omega (arith, e)))

  zero_factors : (ts : Trees) → (bounds_of_factors ts).high ≡ 0 → (bounds_of_factors ts).low ≡ 0
  zero_factors none e = refl
  zero_factors (more t ts) e = omega (arith, zero_high t (omega (arith, e)), zero_factors ts (omega (arith, e)))
