-- Numerators and denominators of fractions, and multiples of fractions that are whole.
use Rattle.calc_bits.proofs.Shared.{◌≡◌, ℕ, ◌*◌, ◌/◌, ◌≤◌, ◌<◌, ℤ, pos, ◌+ℤ◌, ◌*ℤ◌, refl, sym, ap, ◌∙◌, subst, arith, nat_abs, IsGcd, ◌∣◌}
use Rattle.calc_bits.proofs.Shared.{unsigned_abs-mul, le_of_dvd, dvd_trans, eqb-true, mul-div_cancel', dvd-mul_left, mul-dvd-mul, mul-le-mul_left, mul_comm, Fraction, lowest, plus, times, plus_lowest}
use Rattle.calc_bits.proofs.Shared.{second_held, lowest_cross, lowest_parts, same_lowest, den_pos, mul_pos, whole_fraction, parts, diffs, eq_diff, gcd_is, gauss, magnitude_over}
pub use Rattle.calc_algebra.proofs.SquareRootLaws.{mul_cancel as cancel_right, le_by_scaled as cancel_le}

pub coprime : (a : Fraction) → IsGcd (nat_abs a.num) a.den 1
coprime a = subst (λ g. IsGcd (nat_abs a.num) a.den g) (eqb-true _ 1 (second_held _ _ a.lowest)) (gcd_is (nat_abs a.num) a.den)

-- |x| * d is |n| times the denominator of x, where x is n/d
pub abs_cross : (n : ℤ) (d : ℕ) → 0 < d → nat_abs (lowest n d).num * d ≡ nat_abs n * (lowest n d).den
abs_cross n d h =
    sym (unsigned_abs-mul (lowest n d).num (pos d)) ∙ ap nat_abs (lowest_cross n d h) ∙ unsigned_abs-mul n (pos (lowest n d).den)

-- the denominator of n/d divides d
pub den_divides : (n : ℤ) (d : ℕ) → 0 < d → (lowest n d).den ∣ d
den_divides n d h =
    let x : Fraction = lowest n d in
    gauss (nat_abs x.num) x.den d (coprime x) (subst (λ k. x.den ∣ k) (sym (mul_comm d (nat_abs x.num) ∙ abs_cross n d h)) (dvd-mul_left x.den (nat_abs n)))

pub den_at_most : (n : ℤ) (d : ℕ) → 0 < d → (lowest n d).den ≤ d
den_at_most n d h = le_of_dvd h (den_divides n d h)

pub num_at_most : (n : ℤ) (d : ℕ) → 0 < d → nat_abs (lowest n d).num ≤ nat_abs n
num_at_most n d h =
    let l : nat_abs n * (lowest n d).den ≤ nat_abs n * d = mul-le-mul_left (nat_abs n) (den_at_most n d h) in
    cancel_le (nat_abs (lowest n d).num) (nat_abs n) d h (omega (arith, abs_cross n d h))

-- ---- whole multiples

-- e over the denominator of q
pub over_den : (e : ℕ) (q : Fraction) → q.den ∣ e → (e / q.den) * q.den ≡ e
over_den e q h = mul_comm (e / q.den) q.den ∙ mul-div_cancel' q.den h

pub magnitude_cross : (e : ℕ) (q : Fraction) → q.den ∣ e → magnitude_over e q * q.den ≡ nat_abs q.num * e
magnitude_cross e q h = grind (arith, over_den)

-- the magnitude of e * x is told by any quotient n/d that is |x|
pub magnitude_is : (e : ℕ) (x : Fraction) (n d m : ℕ) → x.den ∣ e → 0 < d → nat_abs x.num * d ≡ n * x.den → m * d ≡ n * e → magnitude_over e x ≡ m
magnitude_is e x n d m h p f g =
    cancel_right (magnitude_over e x) m (x.den * d) (mul_pos x.den d (den_pos x) p) (chain (magnitude_over e x) (nat_abs x.num) x.den d e n m (magnitude_cross e x h) f g)
  where
    chain : (u a y d e n m : ℕ) → u * y ≡ a * e → a * d ≡ n * y → m * d ≡ n * e → u * (y * d) ≡ m * (y * d)
    chain u a y d e n m p q r = omega (arith, ap (λ z. z * d) p, ap (λ z. z * e) q, ap (λ z. z * y) r)

pub magnitude_lowest : (e : ℕ) (n : ℤ) (d m : ℕ) → 0 < d → (lowest n d).den ∣ e → m * d ≡ nat_abs n * e → magnitude_over e (lowest n d) ≡ m
magnitude_lowest e n d m p h g = magnitude_is e (lowest n d) (nat_abs n) d m h p (abs_cross n d p) g

pub magnitude_scale : (j e : ℕ) (q : Fraction) → q.den ∣ e → magnitude_over (j * e) q ≡ j * magnitude_over e q
magnitude_scale j e q h =
    magnitude_is (j * e) q (nat_abs q.num) q.den (j * magnitude_over e q) (dvd_trans q.den h (dvd-mul_left e j)) (den_pos q) refl
    (regrouped j (magnitude_over e q) q.den (nat_abs q.num) e (magnitude_cross e q h))
  where
    regrouped : (j m d n e : ℕ) → m * d ≡ n * e → (j * m) * d ≡ n * (j * e)
    regrouped j m d n e h = omega (arith, ap (λ x. j * x) h)

-- ---- products

pub times_den : (p q : Fraction) (d e : ℕ) → p.den ∣ d → q.den ∣ e → (times p q).den ∣ d * e
unfolding times
times_den p q d e h k =
    dvd_trans (lowest (p.num *ℤ q.num) (p.den * q.den)).den (den_divides (p.num *ℤ q.num) (p.den * q.den) (mul_pos p.den q.den (den_pos p) (den_pos q))) (mul-dvd-mul p.den q.den h k)

pub magnitude_times : (p q : Fraction) (d e : ℕ) → p.den ∣ d → q.den ∣ e → magnitude_over (d * e) (times p q) ≡ magnitude_over d p * magnitude_over e q
unfolding times
magnitude_times p q d e h k =
    magnitude_lowest (d * e) (p.num *ℤ q.num) (p.den * q.den) (magnitude_over d p * magnitude_over e q) (mul_pos p.den q.den (den_pos p) (den_pos q)) (times_den p q d e h k)
    (regrouped (magnitude_over d p) (magnitude_over e q) p.den q.den (nat_abs p.num) (nat_abs q.num) d e (magnitude_cross d p h) (magnitude_cross e q k)
    ∙ ap (λ x. x * (d * e)) (sym (unsigned_abs-mul p.num q.num)))
  where
    regrouped : (m n x y a b d e : ℕ) → m * x ≡ a * d → n * y ≡ b * e → (m * n) * (x * y) ≡ (a * b) * (d * e)
    regrouped m n x y a b d e f g = omega (arith, ap (λ z. z * (n * y)) f, ap (λ z. a * d * z) g)

-- ---- sums

-- e * q, where that is whole
abbrev pub whole_over : ℕ → Fraction → ℤ
whole_over e q = q.num *ℤ pos (e / q.den)

pub whole_over-abs : (e : ℕ) (q : Fraction) → nat_abs (whole_over e q) ≡ magnitude_over e q
whole_over-abs e q = unsigned_abs-mul q.num (pos (e / q.den))

-- q over a multiple of its denominator
pub over_multiple : (e : ℕ) (q : Fraction) → 0 < e → q.den ∣ e → q ≡ lowest (whole_over e q) e
over_multiple e q h k = lowest_parts q ∙ same_lowest q.num (whole_over e q) q.den e (den_pos q) h (up q.num (e / q.den) q.den e (over_den e q k))
  where
    up : (n : ℤ) (k x d : ℕ) → k * x ≡ d → n *ℤ pos d ≡ (n *ℤ pos k) *ℤ pos x
    up n k x d e = rw (← e, parts n) (simp diffs (eq_diff _ _ _ _ (omega arith)))

pub plus_over : (a b : ℤ) (d : ℕ) → 0 < d → plus (lowest a d) (lowest b d) ≡ lowest (a +ℤ b) d
plus_over a b d h = plus_lowest a b d d h h ∙ same_lowest _ _ _ _ (mul_pos d d h h) h (rw (parts a, parts b) (simp diffs (eq_diff _ _ _ _ (omega arith))))

pub plus_den : (p q : Fraction) (d : ℕ) → 0 < d → p.den ∣ d → q.den ∣ d → (plus p q).den ∣ d
plus_den p q d h a b =
    let e : plus p q ≡ lowest (whole_over d p +ℤ whole_over d q) d = (λ i. plus (over_multiple d p h a i) (over_multiple d q h b i)) ∙ plus_over (whole_over d p) (whole_over d q) d h in
    subst (λ x. x.den ∣ d) (sym e) (den_divides (whole_over d p +ℤ whole_over d q) d h)

-- a whole multiple
pub multiple_den : (q : Fraction) (n : ℤ) (d : ℕ) → q.den ∣ d → (times q (whole_fraction n)).den ∣ d
multiple_den q n d h = subst (λ k. (times q (whole_fraction n)).den ∣ k) (omega arith) (times_den q (whole_fraction n) d 1 h (den_divides n 1 (omega arith)))
