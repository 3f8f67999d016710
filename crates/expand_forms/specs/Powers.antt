-- The coefficients of the powers of a name in a polynomial.
use Rattle.std.specs.Prelude.{ℕ, ◌≡◌, ◌≢◌, ◌≤◌, ◌<◌, List, [], map, slice_index_or, slice_set, Option, Some, None}
use Rattle.calc_terms.specs.{Fractions.{Fraction, zero_fraction}, Rat.{value_of}, declared.rat.Rat.{Rat}}
use Rattle.expansions.specs.{Named.{led}, Polynomials.{Monomial, Polynomial, Summand, coefficient_at}}

-- x^k as a monomial, which has no factor where k is 0
abbrev pub power_of : List ℕ → ℕ → Monomial
power_of x k = led x k []

-- the coefficient of each power of x stands at its exponent, 0 after the last, and no other monomial has a coefficient other than 0
pub record AreCoefficients (x : List ℕ) (v : Polynomial) (qs : List Fraction) : Type 0 where
  pub powers : (k : ℕ) → coefficient_at (power_of x k) v ≡ slice_index_or qs k zero_fraction
  pub others : (m : Monomial) → coefficient_at m v ≢ zero_fraction → (k : ℕ) × (m ≡ power_of x k)

-- some power of x above this one has a coefficient other than 0
abbrev pub HasPowerAbove : ℕ → List ℕ → Polynomial → Type 0
HasPowerAbove n x v = (k : ℕ) × (n < k) × (coefficient_at (power_of x k) v ≢ zero_fraction)

-- ---- one term

-- the monomial is this power of x, or one above 32
abbrev pub IsPower : List ℕ → Monomial → Option ℕ → Type 0
IsPower x m (Some k) = (k ≤ 32) × (m ≡ power_of x k)
IsPower x m None = (k : ℕ) × (32 < k) × (m ≡ power_of x k)

-- the coefficient is written at the exponent, unless that is above 32
abbrev pub IsNoted : List ℕ → Summand → List Rat → List Rat → Option ℕ → Type 0
IsNoted x s old new (Some k) = IsPower x s.monomial (Some k) × (map value_of new ≡ slice_set (map value_of old) k s.coefficient)
IsNoted x s old new None = IsPower x s.monomial None
