-- Opposites and inverses of rationals that fit.
use Rattle.calc_measures.proofs.Shared.{◌≡◌, ◌≢◌, ℕ, ◌*◌, ◌^◌, ℤ, pos, negsuc, ◌*ℤ◌, neg_ℤ, ◌<ℤ◌, ◌≤ℤ◌, Bool, true, false, ◌&&◌, refl, ap, ◌∙◌}
use Rattle.calc_measures.proofs.Shared.{arith, nat_abs, nat_lt, if◌then◌else◌, and_from, and_parts, exactly, undefined, calculated, powered, whole_numerator, whole_denominator, fits}
use Rattle.calc_measures.proofs.Shared.{fraction_fits, fraction_power, mul_op, pow_op, times_comm, one_times, Fraction, lowest, times, negative, inverse, one_fraction, minus_one_fraction}
use Rattle.calc_measures.proofs.Shared.{whole_fraction, is_zero_fraction, lowest_parts, times_lowest, den_pos, int_is_zero, negative_parts, inverts, abs_negative}

minus_one_times : (z : ℤ) → negsuc 0 *ℤ z ≡ neg_ℤ z
minus_one_times z = grind arith

-- -1 times q is its negative
pub times_minus_one : (q : Fraction) → times minus_one_fraction q ≡ negative q
unfolding negative
times_minus_one q = grind (arith, lowest_parts, times_lowest, den_pos, minus_one_times)

negative_fits : (q : Fraction) → fraction_fits q ≡ true → fraction_fits (negative q) ≡ true
negative_fits q h = grind (arith, negative_parts, abs_negative)

-- the product of -1 and q fits
pub opposite_value : (q : Fraction) → fraction_fits q ≡ true → calculated mul_op minus_one_fraction q ≡ exactly (negative q)
opposite_value q h = grind (arith, times_minus_one, negative_fits)

signed : ℤ → ℕ → ℤ
signed (pos n) d = pos d
signed (negsuc n) d = neg_ℤ (pos d)

signed_below : (z : ℤ) (d : ℕ) → z <ℤ pos 0 → signed z d ≡ neg_ℤ (pos d)
unfolding signed
signed_below z d h = grind arith

signed_above : (z : ℤ) (d : ℕ) → pos 0 ≤ℤ z → signed z d ≡ pos d
unfolding signed
signed_above z d h = grind arith

signed_abs : (z : ℤ) (d : ℕ) → nat_abs (signed z d) ≡ d
unfolding signed
signed_abs z d = grind (arith, abs_negative)

swapped : (a b : Bool) → a && b ≡ true → b && a ≡ true
swapped a b h = let (x, y) = and_parts a b h in and_from b a y x

inverse_fits : (q : Fraction) → q.num ≢ pos 0 → fraction_fits q ≡ true → fraction_fits (inverse q) ≡ true
inverse_fits q z h =
    let i = inverts q q.num (signed q.num q.den) q.den (nat_abs q.num) z refl refl refl (signed_below q.num q.den) (signed_above q.num q.den) in
    (λ j. fits (i.parts.num j) && fits (pos (i.parts.den j))) ∙ ap (λ (n : ℕ). nat_lt n (2 ^ 127) && fits q.num) (signed_abs q.num q.den) ∙ swapped (fits q.num) (fits (pos q.den)) h

first_power : (x : Fraction) → fraction_power x (nat_abs (whole_fraction (pos 1)).num) ≡ x
first_power x = ap (λ (z : ℤ). fraction_power x (nat_abs z)) (whole_numerator (pos 1)) ∙ times_comm x one_fraction ∙ one_times x

pub zero_num : (q : Fraction) → is_zero_fraction q ≡ false → q.num ≢ pos 0
zero_num q h e = let z : is_zero_fraction q ≡ true = ap int_is_zero e in cc

-- what q to the power -1 is
pub inverse_power : (q : Fraction) → powered q (whole_fraction (negsuc 0)).num (whole_fraction (negsuc 0)).den ≡ (if is_zero_fraction q then undefined else calculated pow_op (inverse q) (whole_fraction (pos 1)))
inverse_power q = λ i. powered q (whole_numerator (negsuc 0) i) (whole_denominator (negsuc 0) i)

inverse_calculated : (q : Fraction) → q.num ≢ pos 0 → fraction_fits q ≡ true → calculated pow_op (inverse q) (whole_fraction (pos 1)) ≡ exactly (inverse q)
inverse_calculated q h k = grind (arith, first_power, inverse_fits)

-- it fits
pub inverse_value : (q : Fraction) → is_zero_fraction q ≡ false → fraction_fits q ≡ true → powered q (whole_fraction (negsuc 0)).num (whole_fraction (negsuc 0)).den ≡ exactly (inverse q)
inverse_value q z h = inverse_power q ∙ ap (λ (b : Bool). if b then undefined else calculated pow_op (inverse q) (whole_fraction (pos 1))) z ∙ inverse_calculated q (zero_num q z) h

pub zero_inverse : (q : Fraction) → is_zero_fraction q ≡ true → powered q (whole_fraction (negsuc 0)).num (whole_fraction (negsuc 0)).den ≡ undefined
zero_inverse q z = inverse_power q ∙ ap (λ (b : Bool). if b then undefined else calculated pow_op (inverse q) (whole_fraction (pos 1))) z
