-- By how many bits a node over reduced children is held.
use Rattle.std.specs.Prelude.{ℕ, ℤ, ◌+◌, ◌*◌, ◌^◌, ◌≤◌, ◌≡◌, true, false}
use Rattle.calc_algebra.specs.Reduced.{is_half_num}
use Rattle.calc_terms.specs.{Fractions.{whole_fraction}, Trees.{Tree, num, add, mult, power, root, neg, sub, div, is_num}}
use Rattle.number_forms.specs.Readers.{numerator}
use Rattle.product_reduce.specs.Bits.{IsFactorHeld, AreFactorsHeld}
use Rattle.tree_bits.specs.{Children.{IsSumHeld, addends_of_each}, Powers.{raised_high, raised_low}}

-- a power n by that of the bits of its base, one with half of n as the exponent also by these bits, and any other with no rational
-- as its exponent as the tree that it is
pub data HoldsPower (b e : Tree) (h l : ℕ) : Type 0 where
  holds_whole : (n : ℤ) (p q : ℕ) → e ≡ num (whole_fraction n) → IsFactorHeld b p q → raised_high n p q ≤ h → raised_low n p q ≤ l → HoldsPower b e h l
  holds_half : (p q : ℕ) → is_half_num e ≡ true → (p ≡ 0 → q ≡ 0) → IsFactorHeld b p q → p ≤ h → q ≤ l
      → raised_high (numerator e) p q ≤ h → raised_low (numerator e) p q ≤ l → HoldsPower b e h l
  holds_kept : is_num e ≡ false → IsFactorHeld (power b e) h l → HoldsPower b e h l

-- a difference by those of its sides as terms
pub record HoldsDifference (a b : Tree) (h l : ℕ) : Type 0 where
  pub p : ℕ
  pub q : ℕ
  pub k : ℕ
  pub n : ℕ
  pub left : IsFactorHeld a p q
  pub right : IsFactorHeld b k n
  pub high : 2 ^ p + 2 ^ k ≤ 2 ^ h
  pub low : q + n ≤ l

-- a quotient by those of the dividend, and of the inverse of the divisor
pub record HoldsQuotient (a b : Tree) (h l : ℕ) : Type 0 where
  pub p : ℕ
  pub q : ℕ
  pub k : ℕ
  pub n : ℕ
  pub dividend : IsFactorHeld a p q
  pub divisor : IsFactorHeld b k n
  pub high : p + (k + 2 * n) ≤ h
  pub low : q + (2 * k + 2 * n) ≤ l

abbrev pub HoldsNode : Tree → ℕ → ℕ → Type 0
HoldsNode (add ts) h l = IsSumHeld (addends_of_each ts) h l
HoldsNode (mult ts) h l = AreFactorsHeld ts h l
HoldsNode (power b e) h l = HoldsPower b e h l
HoldsNode (root a) h l = IsFactorHeld a h l × (h ≡ 0 → l ≡ 0)
HoldsNode (neg a) h l = IsFactorHeld a h l
HoldsNode (sub a b) h l = HoldsDifference a b h l
HoldsNode (div a b) h l = HoldsQuotient a b h l
HoldsNode t h l = IsFactorHeld t h l
