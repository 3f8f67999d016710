-- Rationals of the code that are not 0, and whole ones.
use Rattle.surd_terms.proofs.Shared.{◌≡◌, true, ◌≢◌, ℕ, ◌*◌, ◌≤◌, ℤ, pos, sym, ap, ◌∙◌, arith, fraction_fits, times_comm, one_times, Fraction, lowest, times}
use Rattle.surd_terms.proofs.Shared.{zero_fraction, one_fraction, times_lowest, whole_fraction, int_is_zero, ratio_of, value_of, Rat, zero_is, whole_numerator, ratio_parts, parts_fit, Ratio, whole}

-- a rational whose numerator is not 0 is not 0
pub value_not_zero : (r : Rat) → (ratio_of r).num ≢ pos 0 → value_of r ≢ zero_fraction
unfolding zero_fraction
value_not_zero r h e = h (sym (ratio_parts r).num ∙ ap (λ (f : Fraction). f.num) e ∙ whole_numerator (pos 0))

-- the value of a rational whose numerator is 0
pub value_zero : (r : Rat) → (ratio_of r).num ≡ pos 0 → value_of r ≡ zero_fraction
value_zero r h = zero_is (value_of r) (ap int_is_zero ((ratio_parts r).num ∙ h))

-- a rational that is not 0 has a numerator other than 0
pub num_not_zero : (r : Rat) → value_of r ≢ zero_fraction → (ratio_of r).num ≢ pos 0
num_not_zero r h e = h (value_zero r e)

-- the value of a whole number
pub whole_value : (r : Rat) (n : ℤ) → ratio_of r ≡ whole n → value_of r ≡ whole_fraction n
whole_value r n e = ap (λ (x : Ratio). lowest x.num x.den) e

-- the product of whole numbers
pub whole_times : (m n : ℕ) → times (whole_fraction (pos m)) (whole_fraction (pos n)) ≡ whole_fraction (pos (m * n))
whole_times m n = times_lowest (pos m) (pos n) 1 1 (omega arith) (omega arith)

-- the numerator of a rational that is a whole number
pub whole_num_of : (r : Rat) (n : ℤ) → value_of r ≡ whole_fraction n → (ratio_of r).num ≡ n
whole_num_of r n e = sym (ratio_parts r).num ∙ ap (λ (f : Fraction). f.num) e ∙ whole_numerator n

-- a whole number that is not 0
pub whole_not_zero : (n : ℕ) → 1 ≤ n → whole_fraction (pos n) ≢ zero_fraction
unfolding zero_fraction
whole_not_zero n h e = grind (arith, whole_numerator)

-- the fraction that a rational is fits
pub rational_fits : (r : Rat) → fraction_fits (value_of r) ≡ true
rational_fits r = parts_fit (value_of r) (ratio_of r).num (ratio_of r).den (ratio_parts r) r.fits r.den_fits

-- a rational times 1 fits
pub fits_times_one : (r : Rat) (q c : Fraction) (n : ℕ) → c ≡ value_of r → q ≡ whole_fraction (pos n) → n ≡ 1 → fraction_fits (times c q) ≡ true
unfolding one_fraction
fits_times_one r q c n d e f =
    ap fraction_fits ((λ i. times (d i) ((e ∙ ap (λ m. whole_fraction (pos m)) f) i)) ∙ times_comm (value_of r) one_fraction ∙ one_times (value_of r))
    ∙ rational_fits r
