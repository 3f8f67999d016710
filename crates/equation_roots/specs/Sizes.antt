-- How large the coefficients of a polynomial are.
use Rattle.std.specs.{Prelude.{ℕ, ◌+◌, ◌≤◌, ◌<◌, ◌^◌, ℤ, nat_abs, List, [], ◌∷◌, length, slice_index_or}, Int.{◌∣◌}}
use Rattle.calc_bits.specs.Denominators.{magnitude_over}
use Rattle.calc_terms.specs.Fractions.{zero_fraction}
use Rattle.equation_roots.specs.Coefficients.{Dense}

-- d parts the coefficients: it is a common denominator
abbrev pub IsCommon : ℕ → Dense → Type 0
IsCommon d p = (k : ℕ) → k < length p → (slice_index_or p k zero_fraction).den ∣ d

-- the sum of the magnitudes of the coefficients, each times d
abbrev pub mass_over : ℕ → Dense → ℕ
mass_over d [] = 0
mass_over d (q ∷ p) = magnitude_over d q + mass_over d p

-- the sum of the magnitudes
abbrev pub mass_of : List ℤ → ℕ
mass_of [] = 0
mass_of (z ∷ zs) = nat_abs z + mass_of zs

-- over a common denominator of 127 bits at most, the magnitudes of the coefficients add up to at most 2^62
pub record HasFewBits (p : Dense) : Type 0 where
  pub denominator : ℕ
  pub positive : 0 < denominator
  pub fits : denominator < 2 ^ 127
  pub common : IsCommon denominator p
  pub few : mass_over denominator p ≤ 2 ^ 62
