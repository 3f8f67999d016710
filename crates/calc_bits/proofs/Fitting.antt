-- Which sums, products and powers of rationals fit.
use Rattle.calc_bits.proofs.Shared.{◌≡◌, ℕ, zero, suc, ◌+◌, ◌*◌, ◌/◌, ◌^◌, ◌≤◌, ◌<◌, true, ℤ, pos, ◌+ℤ◌, ◌*ℤ◌, refl, sym, ap, ◌∙◌, subst, arith, nat_abs, IsGcd, ◌∣◌, ints, unsigned_abs-mul, and_from}
use Rattle.calc_bits.proofs.Shared.{le_of_dvd, same_from_IsGcd, IsGcd-swap, mul-div_cancel', dvd_of_mul-dvd-mul_left, pos_of_dvd_of_pos, mul-le-mul_left, pow-suc, pow-zero, mul_comm, fits}
use Rattle.calc_bits.proofs.Shared.{fraction_fits, sum_fits, fraction_power, Fraction, lowest, plus, times, den_pos, one_fraction, gcd, gcd_is, gauss, divided, magnitude_over}
use Rattle.calc_bits.proofs.{Quotients.{den_divides, den_at_most, num_at_most, plus_den, magnitude_cross, times_den, magnitude_times, magnitude_is, cancel_le, abs_cross}, ClassMasses.{abs_plus}}

bounded : (z : ℤ) (n : ℕ) → nat_abs z ≤ n → n < 2 ^ 127 → fits z ≡ true
bounded z n h k = grind arith

-- ---- one fraction

pub quotient_fits : (x : Fraction) (n : ℤ) (d : ℕ) → 0 < d → x ≡ lowest n d → nat_abs n < 2 ^ 127 → d < 2 ^ 127 → fraction_fits x ≡ true
quotient_fits x n d p e h k = grind (arith, and_from, bounded, num_at_most, den_at_most)

-- |x| is at most d * |x|, where that is whole
pub num_over : (d : ℕ) (x : Fraction) → 0 < d → x.den ∣ d → nat_abs x.num ≤ magnitude_over d x
num_over d x p h =
    let l : x.den ≤ d = le_of_dvd p h in
    cancel_le (nat_abs x.num) (magnitude_over d x) x.den (den_pos x) (omega (arith, magnitude_cross d x h, mul-le-mul_left (nat_abs x.num) l))

pub multiple_fits : (d : ℕ) (x : Fraction) → 0 < d → x.den ∣ d → d < 2 ^ 127 → magnitude_over d x < 2 ^ 127 → fraction_fits x ≡ true
multiple_fits d x p h k l = and_from (fits x.num) (fits (pos x.den)) (bounded x.num (magnitude_over d x) (num_over d x p h) l) (bounded (pos x.den) d (le_of_dvd p h) k)

-- ---- sums

-- what is left of one denominator divides any common denominator over the other
rest_at_most : (q s d : ℕ) → 0 < q → 0 < d → q ∣ d → s ∣ d → s / gcd q s ≤ d / q
rest_at_most q s d hq hd a b = le_of_dvd (positive (d / q) split) divides
  where
    g : ℕ
    g = gcd q s

    is : IsGcd q s g
    is = gcd_is q s

    gp : 0 < g
    gp = pos_of_dvd_of_pos is.0 hq

    split : q * (d / q) ≡ d
    split = mul-div_cancel' q a

    positive : (k : ℕ) → q * k ≡ d → 0 < k
    positive zero e = absurd (omega arith)
    positive (suc k) e = omega arith

    q-is : g * (q / g) ≡ q
    q-is = mul-div_cancel' g is.0

    s-is : g * (s / g) ≡ s
    s-is = mul-div_cancel' g is.1

    regrouped : (g p k q d : ℕ) → g * p ≡ q → q * k ≡ d → d ≡ g * (k * p)
    regrouped g p k q d e f = omega (arith, ap (λ x. x * k) e, f)

    shared : g * (s / g) ∣ g * ((d / q) * (q / g))
    shared = subst (λ x. x ∣ g * ((d / q) * (q / g))) (sym s-is) (subst (λ x. s ∣ x) (regrouped g (q / g) (d / q) q d q-is split) b)

    divides : s / g ∣ d / q
    divides = gauss (q / g) (s / g) (d / q) (divided q s g gp is) (dvd_of_mul-dvd-mul_left (s / g) gp shared)

scaled_at_most : (a : ℤ) (k m : ℕ) → k ≤ m → nat_abs (a *ℤ pos k) ≤ nat_abs a * m
scaled_at_most a k m h = subst (λ x. x ≤ nat_abs a * m) (sym (unsigned_abs-mul a (pos k))) (mul-le-mul_left (nat_abs a) h)

-- over any common denominator that fits, the magnitudes add up to less than 2^127
pub sum_fits_over : (a b : Fraction) (d : ℕ) → 0 < d → a.den ∣ d → b.den ∣ d → d < 2 ^ 127 → magnitude_over d a + magnitude_over d b < 2 ^ 127 → sum_fits a b ≡ true
sum_fits_over a b d p h k l m =
    and_from _ _ (and_from _ _ (and_from _ _ (bounded x (u + w) x_at_most m) (bounded y (u + w) y_at_most m)) (bounded (x +ℤ y) (u + w) sum_at_most m))
    (bounded (pos (plus a b).den) d (le_of_dvd p (plus_den a b d p h k)) l)
  where
    g : ℕ
    g = gcd a.den b.den

    x : ℤ
    x = a.num *ℤ pos (b.den / g)

    y : ℤ
    y = b.num *ℤ pos (a.den / g)

    u : ℕ
    u = magnitude_over d a

    w : ℕ
    w = magnitude_over d b

    first : nat_abs x ≤ u
    first = scaled_at_most a.num (b.den / g) (d / a.den) (rest_at_most a.den b.den d (den_pos a) p h k)

    turned : gcd b.den a.den ≡ g
    turned = same_from_IsGcd a.den b.den (gcd b.den a.den) g (IsGcd-swap b.den a.den (gcd b.den a.den) (gcd_is b.den a.den)) (gcd_is a.den b.den)

    second : nat_abs y ≤ w
    second = scaled_at_most b.num (a.den / g) (d / b.den) (subst (λ n. a.den / n ≤ d / b.den) turned (rest_at_most b.den a.den d (den_pos b) p k h))

    left : (a u w : ℕ) → a ≤ u → a ≤ u + w
    left a u w h = omega arith

    right : (a u w : ℕ) → a ≤ w → a ≤ u + w
    right a u w h = omega arith

    both : (a b c u w : ℕ) → c ≤ a + b → a ≤ u → b ≤ w → c ≤ u + w
    both a b c u w h k l = omega arith

    x_at_most : nat_abs x ≤ u + w
    x_at_most = left (nat_abs x) u w first

    y_at_most : nat_abs y ≤ u + w
    y_at_most = right (nat_abs y) u w second

    sum_at_most : nat_abs (x +ℤ y) ≤ u + w
    sum_at_most = both (nat_abs x) (nat_abs y) (nat_abs (x +ℤ y)) u w (abs_plus x y) first second

-- ---- powers

pub power_den : (a : Fraction) (d n : ℕ) → a.den ∣ d → (fraction_power a n).den ∣ d ^ n
unfolding one_fraction
power_den a d zero h = subst (λ k. (lowest (pos 1) 1).den ∣ k) (sym (pow-zero d)) (den_divides (pos 1) 1 (omega arith))
power_den a d (suc n) h = subst (λ k. (times a (fraction_power a n)).den ∣ k) (mul_comm d (d ^ n) ∙ sym (pow-suc d n)) (times_den a (fraction_power a n) d (d ^ n) h (power_den a d n h))

pub magnitude_power : (a : Fraction) (d n : ℕ) → a.den ∣ d → magnitude_over (d ^ n) (fraction_power a n) ≡ magnitude_over d a ^ n
unfolding one_fraction
magnitude_power a d zero h =
    ap (λ k. magnitude_over k (lowest (pos 1) 1)) (pow-zero d) ∙ magnitude_is 1 (lowest (pos 1) 1) 1 1 1 (den_divides (pos 1) 1 (omega arith)) (omega arith) (abs_cross (pos 1) 1 (omega arith)) refl
    ∙ sym (pow-zero (magnitude_over d a))
magnitude_power a d (suc n) h =
    subst (λ k. magnitude_over k (times a (fraction_power a n)) ≡ magnitude_over d a ^ suc n) (mul_comm d (d ^ n) ∙ sym (pow-suc d n))
    (magnitude_times a (fraction_power a n) d (d ^ n) h (power_den a d n h) ∙ ap (λ k. magnitude_over d a * k) (magnitude_power a d n h) ∙ mul_comm (magnitude_over d a) (magnitude_over d a ^ n) ∙ sym (pow-suc (magnitude_over d a) n))
