-- Whole exponents, and those that are half of an odd whole number.
use Rattle.std.proofs.Common.{◌≡◌, ℕ, ℤ, true, false, ◌==◌, Some, None, refl, arith}
use Rattle.power_reduce.proofs.Shared.{and_parts, eqb-true, false_from_ne_true, whole_fraction, Tree, num, is_undef, fraction_whole, is_half_num, is_whole_num, goes_inside, power_of_root, rewritten}
use Rattle.power_reduce.proofs.Shared.{rewritten_whole}
pub use Rattle.calc_algebra.proofs.ReducedLaws.{one_and_two as one_is_not_two}

-- ---- whole exponents

pub inside_whole : (e : Tree) → goes_inside e ≡ true → is_whole_num e ≡ true
inside_whole e h = (and_parts _ _ h).0

one_or_half : (d : ℕ) → d ≡ 1 → (d == 2) ≡ false
one_or_half d h = false_from_ne_true (d == 2) (λ k. one_is_not_two d h (eqb-true d 2 k))

pub whole_no_half : (e : Tree) → is_whole_num e ≡ true → is_half_num e ≡ false
whole_no_half e h = grind (arith, one_or_half)

-- an exponent that is the whole number n
pub record IsWholeExponent (e : Tree) : Type 0 where
  pub exponent : ℤ
  pub is : e ≡ num (whole_fraction exponent)

pub whole_exponent : (e : Tree) → is_whole_num e ≡ true → IsWholeExponent e
whole_exponent e h = grind (arith, fraction_whole)

-- ---- rewritings

pub as_whole : (b e : Tree) → is_half_num e ≡ false → rewritten b e ≡ rewritten_whole b e
as_whole b e h = rw h refl

pub by_half : (b e : Tree) → is_half_num e ≡ true → is_undef b ≡ false → rewritten b e ≡ Some (power_of_root b e)
by_half b e h u = rw (h, u) refl

-- a power that is kept has no half as its exponent
pub no_half : (b e : Tree) → is_undef b ≡ false → rewritten b e ≡ None → is_half_num e ≡ false
no_half b e u r = grind arith
