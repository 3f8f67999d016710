-- A sign, a magnitude and a denominator as a rational.
use Rattle.calc_terms.proofs.Shared.{◌≡◌, ℕ, ℤ, pos, ◌<◌, ◌≤◌, ◌^◌, Bool, true, false, refl, ap, ◌∙◌, arith, zero, suc, to_z, of_z, FitsSigned, nat_abs, ◌<ℤ◌}
use Rattle.calc_terms.proofs.Shared.{IsGcd, w128, ints, to_z-of_z, to_z_pos, and_from, lt-ltb, eq-eqb, same_from_IsGcd, is_lowest, gcd, gcd_is, with_sign}

pub lowest_is : (z : ℤ) (n d : ℕ) → nat_abs z ≡ n → 0 < d → IsGcd n d 1 → is_lowest z d ≡ true
lowest_is z n d e h g = and_from _ _ (lt-ltb 0 d h) (eq-eqb _ 1 (ap (λ (k : ℕ). gcd k d) e ∙ same_from_IsGcd n d _ _ (gcd_is n d) g))

pub abs-with_sign : (b : Bool) (n : ℕ) → nat_abs (with_sign b n) ≡ n
abs-with_sign true zero = refl
abs-with_sign true (suc n) = refl
abs-with_sign false n = refl

pub record IsMade (x y : ℤ) : Type 0 where
  pub positive : pos 0 <ℤ y
  pub fits : nat_abs x < 2 ^ 127
  pub den_fits : nat_abs y < 2 ^ 127
  pub in_lowest_terms : is_lowest x (nat_abs y) ≡ true

pub is_made : (b : Bool) (n d : ℕ) (z : ℤ) → z ≡ with_sign b n → n < 2 ^ 127 → 1 ≤ d → d < 2 ^ 127 → IsGcd n d 1 → FitsSigned w128 z → IsMade (to_z w128 (of_z w128 z)) (to_z w128 d)
is_made b n d z e small positive under g fits =
    let z-is : to_z w128 (of_z w128 z) ≡ z = to_z-of_z w128 z fits in
    let abs-z : nat_abs z ≡ n = ap nat_abs e ∙ abs-with_sign b n in
    let d-is : to_z w128 d ≡ pos d = to_z_pos w128 d under in
    let made : IsMade z (pos d) = record { positive = omega (arith, ints); fits = omega arith; den_fits = under; in_lowest_terms = lowest_is z n d abs-z positive g } in
    rw (d-is, z-is) made

pub whole_is : (z : ℤ) → nat_abs z < 2 ^ 127 → FitsSigned w128 z → IsGcd (nat_abs z) 1 1 → IsMade (to_z w128 (of_z w128 z)) (pos 1)
whole_is z h fits g =
    let z-is : to_z w128 (of_z w128 z) ≡ z = to_z-of_z w128 z fits in
    let made : IsMade z (pos 1) = record { positive = omega (arith, ints); fits = h; den_fits = omega arith; in_lowest_terms = lowest_is z (nat_abs z) 1 refl (omega arith) g } in
    rw z-is made
