-- The inverse of one term, and of the sum of two that are not alike, is no larger than its formula says.
use Rattle.surd_bits.proofs.Shared.{◌≡◌, ◌≢◌, ◌<◌, [], ◌∷◌, false, arith, zero_fraction, are_alike, Term, inverse_of, first_of_inverse, second_of_inverse, IsNoLargerThanInverse}
use Rattle.surd_bits.proofs.{InversesFit.{inverse_held, inverse_of_sum_held}, InversesMeasured.{MeasuredOne, measured_one, one_parts, one_scale, one_mass, inverse_one_by_one, Measured, measured}}
use Rattle.surd_bits.proofs.InversesMeasured.{measured_parts, measured_scale, measured_mass, inverse_by_one}

pub one_no_larger : (a : Term) → a.coefficient ≢ zero_fraction → 0 < a.radicand → IsNoLargerThanInverse (a ∷ []) (inverse_of a ∷ [])
one_no_larger a n p = record {
  measured = λ d e m x y.
      let z : MeasuredOne a d e = measured_one a d e n p x in
      (z.factor, record { at_most = let l = z.at_most in omega arith; parts = one_parts a d e z; scaled = one_scale a d e z y.positive; mass = one_mass a m d e z n x y });
  held = λ h l k. inverse_held a h l n p k;
  by_one = λ h l k. inverse_one_by_one a h l n p k;
}

pub two_no_larger : (a b : Term) → a.coefficient ≢ zero_fraction → b.coefficient ≢ zero_fraction → 0 < a.radicand → 0 < b.radicand → are_alike a.radicand b.radicand ≡ false
    → IsNoLargerThanInverse (a ∷ b ∷ []) (first_of_inverse a b ∷ second_of_inverse a b ∷ [])
two_no_larger a b n m p q apart = record {
  measured = λ d e j x y.
      let z : Measured a b d e = measured a b d e n m p q apart x y in (
        z.factor,
        record { at_most = let l = z.at_most in omega arith; parts = measured_parts a b d e z; scaled = measured_scale a b d e z y.positive; mass = measured_mass a b j d e z x.positive (y.whole.1).0 },
      );
  held = λ h l k. inverse_of_sum_held a b h l n m p q apart k;
  by_one = λ h l k. inverse_by_one a b h l n m p q apart k;
}
