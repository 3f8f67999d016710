-- Inverses of what is held: the calculations fit, and how large they are.
use Rattle.surd_bits.proofs.Shared.{◌≡◌, ◌≢◌, ℕ, ◌+◌, ◌*◌, ◌≤◌, ◌<◌, ℤ, pos, ◌+ℤ◌, ◌*ℤ◌, neg_ℤ, refl, sym, ap, ◌∙◌, subst, arith, nat_abs, ints, unsigned_abs-mul, dvd_trans, dvd-mul_left, Fraction}
use Rattle.surd_bits.proofs.Shared.{lowest, plus, times, negative, inverse, zero_fraction, one_fraction, lowest_parts, times_lowest, mul_pos, den_pos, gauss, cross_products, Term}
use Rattle.surd_bits.proofs.Shared.{inverse_times_itself, magnitude_over, cancel_right, coprime, den_divides, magnitude_is, magnitude_lowest, magnitude_cross, magnitude_times, times_den, multiple_den}
use Rattle.surd_bits.proofs.{Shared.{whole_over, whole_over-abs, over_multiple, plus_over, square_of, ◌∣◌, mul_comm, abs_negative, abs_plus}, Bounds.{magnitude_whole, magnitude_positive}}

-- ---- inverses of fractions

-- where |x| is n/d, the denominator of x divides d
den_from : (x : Fraction) (n d : ℕ) → nat_abs x.num * d ≡ n * x.den → x.den ∣ d
den_from x n d e = gauss (nat_abs x.num) x.den d (coprime x) (subst (λ k. x.den ∣ k) (sym (mul_comm d (nat_abs x.num) ∙ e)) (dvd-mul_left x.den n))

-- the inverse, over D times the magnitude of what is inverted
pub record OverInverse (D : ℕ) (q : Fraction) : Type 0 where
  pub whole : (inverse q).den ∣ magnitude_over D q
  pub is : magnitude_over (magnitude_over D q) (inverse q) ≡ D

pub over_inverse : (D : ℕ) (q : Fraction) → q ≢ zero_fraction → 0 < D → q.den ∣ D → OverInverse D q
unfolding one_fraction
over_inverse D q n p h = record { whole = den_from x D f cross; is = magnitude_is f x D f D (den_from x D f cross) positive cross refl }
  where
    x : Fraction
    x = inverse q

    f : ℕ
    f = magnitude_over D q

    positive : 0 < f
    positive = magnitude_positive q D n p h

    together : nat_abs x.num * nat_abs q.num * 1 ≡ 1 * (x.den * q.den)
    together =
        ap (λ z. z * 1) (sym (unsigned_abs-mul x.num q.num)) ∙ sym (unsigned_abs-mul (x.num *ℤ q.num) (pos 1))
        ∙ ap nat_abs (cross_products (x.num *ℤ q.num) (pos 1) (x.den * q.den) 1 (mul_pos x.den q.den (den_pos x) (den_pos q)) (omega arith)
        (sym (times_lowest x.num q.num x.den q.den (den_pos x) (den_pos q)) ∙ (λ i. times (sym (lowest_parts x) i) (sym (lowest_parts q) i)) ∙ inverse_times_itself q n))
        ∙ unsigned_abs-mul (pos 1) (pos (x.den * q.den))

    cross : nat_abs x.num * f ≡ D * x.den
    cross = cancel_right (nat_abs x.num * f) (D * x.den) q.den (den_pos q) (chain (nat_abs x.num) f q.den (nat_abs q.num) D x.den (magnitude_cross D q h) together)
      where
        chain : (a f y b d z : ℕ) → f * y ≡ b * d → a * b * 1 ≡ 1 * (z * y) → (a * f) * y ≡ (d * z) * y
        chain a f y b d z g k = omega (arith, ap (λ w. a * w) g, ap (λ w. w * d) k)

-- ---- differences and squares

pub negative_den : (q : Fraction) (d : ℕ) → q.den ∣ d → (negative q).den ∣ d
unfolding negative
negative_den q d h = dvd_trans (lowest (neg_ℤ q.num) q.den).den (den_divides (neg_ℤ q.num) q.den (den_pos q)) h

pub magnitude_negative : (q : Fraction) (d : ℕ) → q.den ∣ d → magnitude_over d (negative q) ≡ magnitude_over d q
unfolding negative
magnitude_negative q d h = magnitude_lowest d (neg_ℤ q.num) q.den (magnitude_over d q) (den_pos q) (negative_den q d h) (magnitude_cross d q h ∙ ap (λ k. k * d) (sym (abs_negative q.num)))

pub square_den : (t : Term) (d : ℕ) → t.coefficient.den ∣ d → (square_of t).den ∣ d * d
square_den t d h = multiple_den (times t.coefficient t.coefficient) (pos t.radicand) (d * d) (times_den t.coefficient t.coefficient d d h h)

pub square_magnitude : (t : Term) (d : ℕ) → t.coefficient.den ∣ d → magnitude_over (d * d) (square_of t) ≡ magnitude_over d t.coefficient * magnitude_over d t.coefficient * t.radicand
square_magnitude t d h = grind (arith, magnitude_whole, times_den, magnitude_times)

-- ---- c over a fraction D * Δ = f

-- c.coefficient times 1/Δ: a multiple of 1/f
pub record OverDifference (d e f : ℕ) (c k : Fraction) : Type 0 where
  pub whole : (times c k).den ∣ f
  pub is : magnitude_over f (times c k) ≡ magnitude_over d c * d
  pub scaled : (times c k).den ∣ e * f
  pub scaled_is : magnitude_over (e * f) (times c k) ≡ magnitude_over e c * (d * d)

pub over_difference : (d e f : ℕ) (c k : Fraction) → 0 < d → 0 < f → c.den ∣ d → c.den ∣ e → k.den ∣ f → magnitude_over f k ≡ d * d → OverDifference d e f c k
over_difference d e f c k p q a b h g = record {
  whole = den_from x (magnitude_over d c * d) f cross;
  is = magnitude_is f x (magnitude_over d c * d) f (magnitude_over d c * d) (den_from x (magnitude_over d c * d) f cross) q cross refl;
  scaled = times_den c k e f b h;
  scaled_is = magnitude_times c k e f b h ∙ ap (λ z. magnitude_over e c * z) g;
}
  where
    x : Fraction
    x = times c k

    over_both : magnitude_over (d * f) x ≡ magnitude_over d c * (d * d)
    over_both = magnitude_times c k d f a h ∙ ap (λ z. magnitude_over d c * z) g

    cross : nat_abs x.num * f ≡ (magnitude_over d c * d) * x.den
    cross = cancel_right (nat_abs x.num * f) ((magnitude_over d c * d) * x.den) d p (chain (nat_abs x.num) f (magnitude_over d c) d x.den (magnitude_over (d * f) x) (magnitude_cross (d * f) x (times_den c k d f a h)) over_both)
      where
        chain : (a f n d y m : ℕ) → m * y ≡ a * (d * f) → m ≡ n * (d * d) → (a * f) * d ≡ ((n * d) * y) * d
        chain a f n d y m r s = omega (arith, r, ap (λ z. z * y) s)
