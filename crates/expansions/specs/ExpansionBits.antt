-- How large the coefficients and the exponents of a polynomial are.
use Rattle.std.specs.{Prelude.{ℕ, ◌+◌, ◌*◌, ◌^◌, ◌≤◌, ◌<◌, ⊤, [], ◌∷◌}, Int.{◌∣◌}}
use Rattle.calc_bits.specs.Denominators.{magnitude_over}
use Rattle.calc_terms.specs.Trees.{Trees, none, more}
use Rattle.expansions.specs.{Polynomials.{Monomial, Polynomial}, PolynomialTrees.{polynomial_of}}

-- d times each coefficient is whole
abbrev pub AreWhole : ℕ → Polynomial → Type 0
AreWhole d [] = ⊤
AreWhole d (s ∷ v) = (s.coefficient.den ∣ d) × AreWhole d v

-- the sum of the magnitudes of these whole numbers
abbrev pub mass : ℕ → Polynomial → ℕ
mass d [] = 0
mass d (s ∷ v) = magnitude_over d s.coefficient + mass d v

-- no exponent is above n
abbrev pub HasExponents : ℕ → Monomial → Type 0
HasExponents n [] = ⊤
HasExponents n (f ∷ m) = (f.exponent ≤ n) × HasExponents n m

abbrev pub HaveExponents : ℕ → Polynomial → Type 0
HaveExponents n [] = ⊤
HaveExponents n (s ∷ v) = HasExponents n s.monomial × HaveExponents n v

-- v is held by (h, l): some common denominator of its coefficients is at most 2 ^ l, the sum of their magnitudes is at most
-- 2 ^ h, and no exponent is above h
pub record IsHeld (v : Polynomial) (h l : ℕ) : Type 0 where
  pub denominator : ℕ
  pub positive : 0 < denominator
  pub whole : AreWhole denominator v
  pub low : denominator ≤ 2 ^ l
  pub high : mass denominator v ≤ denominator * 2 ^ h
  pub exponents : HaveExponents h v

-- each tree's polynomial is held by bits of its own, which sum up to (h, l) at most
abbrev pub AreHeldTogether : Trees → ℕ → ℕ → Type 0
AreHeldTogether none h l = ⊤
AreHeldTogether (more t ts) h l = (a b c d : ℕ) × IsHeld (polynomial_of t) a b × AreHeldTogether ts c d × (a + c ≤ h) × (b + d ≤ l)
