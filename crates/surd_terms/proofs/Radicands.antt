-- Clean radicands, and how large the parts of a radicand are.
use Rattle.surd_terms.proofs.Shared.{◌≡◌, ℕ, zero, suc, ◌*◌, ◌/◌, ◌<◌, ◌≤◌, ◌^◌, sym, ap, ◌∙◌, arith, mul-le-mul, lt_of_le_of_lt, IsGcd, mul-div_cancel', IsClean, mul_pos, ◌∣◌, left_of_is}
use native.Mathlib.Nat.{pos_of_dvd_of_pos}

square_above_one : (d n : ℕ) → 1 ≡ d * d * n → 1 < d → ⊥
square_above_one d n e h = grind arith

pub clean_one : IsClean 1
clean_one = record {
  no_square = λ d two le h. square_above_one d (1 / (d * d)) (sym (mul-div_cancel' (d * d) h)) (omega arith);
  no_rest = λ s above e. square_above_one s (left_of_is 1 (omega arith)).factor ((left_of_is 1 (omega arith)).whole ∙ ap (λ n. n * (left_of_is 1 (omega arith)).factor) e) above;
}

-- a part of a number that is not 0 is at most it
pub part_at_most : (n s t : ℕ) → 1 ≤ n → n ≡ s * s * t → (s ≤ n) × (t ≤ n) × (1 ≤ s) × (1 ≤ t)
part_at_most n zero t h e = absurd (omega arith)
part_at_most n (suc s) zero h e = absurd (omega arith)
part_at_most n (suc s) (suc t) h e = (grind arith, grind arith, omega arith, omega arith)

-- a square root of a product of two numbers below a bound is below it
pub root_below : (r s u t b : ℕ) → r < b → s < b → 1 ≤ t → r * s ≡ u * u * t → u < b
root_below r s u t zero h k one e = absurd (omega arith)
root_below r s u t (suc b) h k one e = omega (arith, too_large)
  where
    too_large : suc b ≤ u → ⊥
    too_large le =
        let r-le : r ≤ b = omega arith in
        let s-le : s ≤ b = omega arith in
        omega (arith, e, mul-le-mul r-le s-le, mul-le-mul le le, mul-le-mul (mul-le-mul le le) one)

-- u * u is a square part of r * s, with all numbers below 2^127
pub record IsSquarePart (r s u t : ℕ) : Type 0 where
  pub product : r * s ≡ u * u * t
  pub positive : 1 ≤ u
  pub root_fits : u < 2 ^ 127
  pub rest_fits : t < 2 ^ 127

divisor_positive : (g n : ℕ) → g ∣ n → 1 ≤ n → 1 ≤ g
divisor_positive g n h k = pos_of_dvd_of_pos h k

-- what two radicands share is at least 1
pub shared_positive : (r s g : ℕ) → 1 ≤ r → IsGcd r s g → 1 ≤ g
shared_positive r s g h d = divisor_positive g r d.0 h

quotient_positive : (g n : ℕ) → g ∣ n → 1 ≤ n → 1 ≤ n / g
quotient_positive g n h k = by (n / g) (mul-div_cancel' g h)
  where
    by : (m : ℕ) → g * m ≡ n → 1 ≤ m
    by zero e = absurd (omega arith)
    by (suc m) e = omega arith

-- what is left of the product without the square of what they share is at least 1
pub rest_positive : (r s g : ℕ) → 1 ≤ r → 1 ≤ s → IsGcd r s g → 1 ≤ (r / g) * (s / g)
rest_positive r s g h k d = mul_pos (r / g) (s / g) (quotient_positive g r d.0 h) (quotient_positive g s d.1 k)

-- the square of what they share and that of the rest make a square part
pub square_part : (r s g m u t : ℕ) → 1 ≤ r → r < 2 ^ 127 → 1 ≤ s → s < 2 ^ 127 → IsGcd r s g → m ≡ (r / g) * (s / g) → m < 2 ^ 127 → m ≡ u * u * t → IsSquarePart r s (g * u) t
square_part r s g m u t r-one r-fits s-one s-fits d e m-fits f =
    let m-one : 1 ≤ m = rw e (rest_positive r s g r-one s-one d) in
    let (u-le, t-le, u-one, t-one) = part_at_most m u t m-one f in record {
      product = whole;
      positive = mul_pos g u (shared_positive r s g r-one d) u-one;
      root_fits = root_below r s (g * u) t (2 ^ 127) r-fits s-fits t-one whole;
      rest_fits = lt_of_le_of_lt t-le m-fits;
    }
  where
    gathered : (x y : ℕ) → (g * x) * (g * y) ≡ g * g * (x * y)
    gathered x y = omega arith

    parted : g * g * (u * u * t) ≡ (g * u) * (g * u) * t
    parted = omega arith

    whole : r * s ≡ (g * u) * (g * u) * t
    whole = (λ i. sym (mul-div_cancel' g d.0) i * sym (mul-div_cancel' g d.1) i) ∙ gathered (r / g) (s / g) ∙ ap (λ n. g * g * n) (sym e ∙ f) ∙ parted
