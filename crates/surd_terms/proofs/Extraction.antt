-- Square parts of p * q, for the root of p/q.
use Rattle.calc_terms.proofs.Leaves.{at_least_one as positive_abs}
use Rattle.surd_terms.proofs.Shared.{◌≡◌, ◌≢◌, ℕ, zero, suc, ◌*◌, ◌<◌, ◌≤◌, ◌^◌, ℤ, pos, ◌<ℤ◌, [], ◌∷◌, sym, ◌∙◌, arith, nat_abs, ints, Fraction, quotient, zero_fraction, IsRootOf, term}
use Rattle.surd_terms.proofs.{Shared.{cross_products, root_extracted}, Radicands.{part_at_most}}

-- a number above 0 is its magnitude
pub positive_is : (z : ℤ) → pos 0 <ℤ z → z ≡ pos (nat_abs z)
positive_is z h = grind arith

-- s * s is a square part of the magnitude of z times d, with all numbers below 2^127
pub record IsSplit (z : ℤ) (d s t : ℕ) : Type 0 where
  pub product : nat_abs z * d ≡ s * s * t
  pub positive : 1 ≤ s
  pub root_fits : s < 2 ^ 127
  pub rest_fits : t < 2 ^ 127

pub split_root : (z : ℤ) (d m s t : ℕ) → pos 0 <ℤ z → 1 ≤ d → m ≡ nat_abs z * d → m < 2 ^ 127 → m ≡ s * s * t → IsSplit z d s t
split_root z d m s t h k e l f = grind (arith, part_at_most, positive_abs)

-- the root of z/d
pub root_of : (z : ℤ) (d s t : ℕ) → pos 0 <ℤ z → 1 ≤ d → nat_abs z * d ≡ s * s * t → IsRootOf z d (term (quotient s d) t ∷ [])
root_of z d s t h k e = grind (arith, root_extracted)

-- a quotient of a number other than 0 is not 0
pub quotient_not_zero : (q : Fraction) (s d : ℕ) → q ≡ quotient s d → 1 ≤ s → 1 ≤ d → q ≢ zero_fraction
unfolding zero_fraction
quotient_not_zero q zero d e h k z = absurd (omega arith)
quotient_not_zero q (suc s) d e h k z = let f : pos (suc s * 1) ≡ pos (0 * d) = cross_products (pos (suc s)) (pos 0) d 1 k (omega arith) (sym e ∙ z) in absurd (omega (arith, ints))
