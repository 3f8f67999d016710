-- Small laws that several crates above cite.
use Rattle.calc_bits.proofs.{Shared.{◌≡◌, ℕ, ◌+◌, ◌≤◌, ◌<◌, ℤ, ◌+ℤ◌, refl, sym, ◌∙◌, subst, arith, nat_abs, Fraction, lowest, plus, magnitude_over, ◌∣◌}, Quotients.{den_divides, magnitude_lowest}}
use Rattle.calc_bits.proofs.{Quotients.{whole_over, whole_over-abs, over_multiple, plus_over}, ClassMasses.{abs_plus}}

pub magnitude_plus : (p q : Fraction) (d : ℕ) → 0 < d → p.den ∣ d → q.den ∣ d → magnitude_over d (plus p q) ≤ magnitude_over d p + magnitude_over d q
magnitude_plus p q d h a b =
    let x : ℤ = whole_over d p in
    let y : ℤ = whole_over d q in
    let e : plus p q ≡ lowest (x +ℤ y) d = (λ i. plus (over_multiple d p h a i) (over_multiple d q h b i)) ∙ plus_over x y d h in
    let f : magnitude_over d (lowest (x +ℤ y) d) ≡ nat_abs (x +ℤ y) = magnitude_lowest d (x +ℤ y) d (nat_abs (x +ℤ y)) h (den_divides (x +ℤ y) d h) refl in
    subst (λ z. magnitude_over d z ≤ magnitude_over d p + magnitude_over d q) (sym e)
    (at (magnitude_over d (lowest (x +ℤ y) d)) (nat_abs (x +ℤ y)) (nat_abs x) (nat_abs y) (magnitude_over d p) (magnitude_over d q) f (abs_plus x y) (whole_over-abs d p) (whole_over-abs d q))
  where
    at : (m n u w a b : ℕ) → m ≡ n → n ≤ u + w → u ≡ a → w ≡ b → m ≤ a + b
    at m n u w a b e f g h = omega arith
