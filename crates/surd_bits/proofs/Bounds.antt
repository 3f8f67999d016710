-- What is held says of magnitudes over one common denominator.
use Rattle.surd_bits.proofs.Shared.{◌≡◌, ◌≢◌, ℕ, zero, suc, ◌+◌, ◌*◌, ◌^◌, ◌≤◌, ◌<◌, false, ℤ, pos, refl, ap, ◌∙◌, arith, nat_abs, mul-le, pow-add}
use Rattle.surd_bits.proofs.Shared.{pow-le-pow_right, Fraction, times, whole_fraction, zero_fraction, mul_pos, zero_is, Term, magnitude_over, root_above, den_divides, abs_cross, magnitude_is}
use Rattle.surd_bits.proofs.Shared.{magnitude_times, magnitude_cross, root_enough, magnitudes_cross, square_held, ◌∣◌, false_from_ne_true, int_is_zero}

-- ---- powers of 2

-- d * 2 ^ h and its square, within 124 bits
pub held_bound : (d h l : ℕ) → d ≤ 2 ^ l → d * 2 ^ h ≤ 2 ^ (h + l)
held_bound d h l a = let b : d * 2 ^ h ≤ 2 ^ l * 2 ^ h = mul-le d (2 ^ h) (2 ^ l) (2 ^ h) a (omega arith) in omega (arith, pow-add 2 h l)

below_power : (a k n : ℕ) → a ≤ 2 ^ k → k ≤ n → a ≤ 2 ^ n
below_power a k n h l = let b : 2 ^ k ≤ 2 ^ n = pow-le-pow_right {n = 2} (omega arith) l in omega arith

fits_below : (a : ℕ) → a ≤ 2 ^ 126 → a < 2 ^ 127
fits_below a h = omega arith

pub power_fits : (a k : ℕ) → a ≤ 2 ^ k → k ≤ 126 → a < 2 ^ 127
power_fits a k h l = fits_below a (below_power a k 126 h l)

pub square_bound : (d h l : ℕ) → d ≤ 2 ^ l → (d * 2 ^ h) * (d * 2 ^ h) ≤ 2 ^ ((h + l) + (h + l))
square_bound d h l a = grind (arith, held_bound, mul-le, pow-add)

pub denominator_bound : (d h l : ℕ) → d ≤ 2 ^ l → d ≤ 2 ^ (h + l)
denominator_bound d h l a = below_power d l (h + l) a (omega arith)

-- ---- magnitudes

pub magnitude_whole : (q : Fraction) (d n : ℕ) → q.den ∣ d → magnitude_over d (times q (whole_fraction (pos n))) ≡ magnitude_over d q * n
magnitude_whole q d n h =
    ap (λ k. magnitude_over k (times q (whole_fraction (pos n)))) (omega arith)
    ∙ magnitude_times q (whole_fraction (pos n)) d 1 h (den_divides (pos n) 1 (omega arith))
    ∙ ap (λ k. magnitude_over d q * k) (magnitude_is 1 (whole_fraction (pos n)) n 1 n (den_divides (pos n) 1 (omega arith)) (omega arith) (abs_cross (pos n) 1 (omega arith)) refl)

abs_positive : (z : ℤ) → int_is_zero z ≡ false → 0 < nat_abs z
abs_positive z h = grind arith

-- a multiple of what is not 0 is not 0
pub magnitude_positive : (q : Fraction) (d : ℕ) → q ≢ zero_fraction → 0 < d → q.den ∣ d → 0 < magnitude_over d q
magnitude_positive q d n p h = grind (arith, magnitude_cross, mul_pos, abs_positive, false_from_ne_true, zero_is)

-- ---- one term

-- its magnitude over d, squared and times the radicand
pub one_held : (t : Term) (d e w h : ℕ) → 0 < e → t.coefficient.den ∣ d → t.coefficient.den ∣ e
    → root_above (magnitude_over e t.coefficient * magnitude_over e t.coefficient * t.radicand) ≤ w → w ≤ e * 2 ^ h
    → magnitude_over d t.coefficient * magnitude_over d t.coefficient * t.radicand ≤ (d * 2 ^ h) * (d * 2 ^ h)
one_held t d e w h p a b r l =
    let k : ℕ = magnitude_over e t.coefficient in
    let x : root_above (k * k * t.radicand) * root_above (k * k * t.radicand) ≤ w * w = mul-le _ _ w w r r in
    square_held (magnitude_over d t.coefficient) t.radicand d e k w h p (magnitudes_cross d e t.coefficient a b) (let y : k * k * t.radicand ≤ root_above (k * k * t.radicand) * root_above (k * k * t.radicand) = root_enough (k * k * t.radicand) in omega arith) l

-- where n * n * r is at most the square of b, n is at most b
pub root_at_most : (n r b : ℕ) → 0 < r → n * n * r ≤ b * b → n ≤ b
root_at_most n r b h k = grind arith
