-- Coefficients that are small stay small.
use Rattle.std.proofs.Common.{◌≡◌, ◌⊎◌, inl, inr, ℕ, zero, suc, ◌+◌, ◌*◌, ◌/◌, ◌<◌, ◌≤◌, ◌^◌, ℤ, pos, ◌+ℤ◌, ◌*ℤ◌, neg_ℤ, nat_abs, Bool, List, [], ◌∷◌, map, length, get_or, drop, refl, sym, ap, ◌∙◌, subst, arith}
use Rattle.std.proofs.lemmas.{Int.{ints, unsigned_abs-mul}}
use Rattle.std.proofs.Math.Nat.{div-mul-le_self, dvd_of_mul-dvd-mul_left, le-mul_of_pos_right, mul-dvd-mul_left}
use Rattle.std.proofs.{lemmas.Nat.{le-div, pow-add}, Math.Nat.{pow-le-pow_right}}
use Rattle.std.specs.Int.{IsGcd}
use native.Mathlib.Nat.{dvd-mul_right, mul-div_cancel'}
use Prim.Native.Nat.{◌∣◌}
use Rattle.calc_bits.specs.Denominators.{magnitude_over}
use Rattle.calc_terms.specs.{Fractions.{Fraction, times, whole_fraction, zero_fraction, den_pos}, Gcd.{divided, gauss}, Ratio.{with_sign}}
use Rattle.calc_terms.proofs.{Lowest.{gcd_positive}, Signs.{abs-with_sign}}
use Rattle.calc_algebra.proofs.MeaningLaws.{whole_one}
use Rattle.equation_roots.specs.{Coefficients.{Dense}, Sizes.{HasFewBits, IsCommon, mass_of, mass_over}, Wholes.{fractions}}
use Rattle.equation_roots.proofs.{CommonFactors.{scaled_entry}, Wide.{abs_neg, handed, told}}

-- ---- the least common multiple

-- a * (b / g) divides what a and b divide
pub least_multiple : (a b g n : ℕ) → IsGcd a b g → 0 < b → a ∣ n → b ∣ n → a * (b / g) ∣ n
least_multiple a b g n is pb da db =
    subst (λ x. a * (b / g) ∣ x) (mul-div_cancel' a da) (mul-dvd-mul_left (b / g) a (gauss (a / g) (b / g) (n / a) (divided a b g pg is) part))
  where
    pg : 0 < g
    pg = gcd_positive a b g pb is

    exchanged : (g x k n a : ℕ) → g * x ≡ a → a * k ≡ n → g * (k * x) ≡ n
    exchanged g x k n a e f = swapped g x k ∙ ap (λ y. y * k) e ∙ f
      where
        swapped : (g x k : ℕ) → g * (k * x) ≡ (g * x) * k
        swapped g x k = omega arith

    part : (b / g) ∣ (n / a) * (a / g)
    part = dvd_of_mul-dvd-mul_left (b / g) pg (subst (λ x. x ∣ g * ((n / a) * (a / g))) (sym (mul-div_cancel' g is.1)) (subst (λ x. b ∣ x) (sym (exchanged g (a / g) (n / a) n a (mul-div_cancel' g is.0) (mul-div_cancel' a da))) db))

-- ---- products that fit

product_at_most : (x y m n : ℕ) → x ≤ m → y ≤ n → x * y ≤ m * n
product_at_most x y m n h k = grind (arith, native.Mathlib.Nat.mul-le-mul)

pub small_product : (x y : ℤ) → nat_abs x ≤ 2 ^ 62 → nat_abs y ≤ 2 ^ 62 → nat_abs (x *ℤ y) ≤ 2 ^ 124
small_product x y h k = subst (λ n. n ≤ 2 ^ 124) (sym (unsigned_abs-mul x y)) (product_at_most (nat_abs x) (nat_abs y) (2 ^ 62) (2 ^ 62) h k)

-- ---- sums of magnitudes

pub grows : (d e : ℕ) (q : Fraction) → d ≤ e → magnitude_over d q ≤ magnitude_over e q
grows d e q h = product_at_most (nat_abs q.num) (d / q.den) (nat_abs q.num) (e / q.den) (omega arith) (le-div (d / q.den) e q.den (den_pos q) (omega (arith, h, div-mul-le_self d q.den)))

pub mass_grows : (d e : ℕ) (p : Dense) → d ≤ e → mass_over d p ≤ mass_over e p
mass_grows d e [] h = omega arith
mass_grows d e (q ∷ p) h = omega (arith, grows d e q h, mass_grows d e p h)

pub entry_at_most : (d : ℕ) (p : Dense) (k : ℕ) → k < length p → magnitude_over d (get_or p k zero_fraction) ≤ mass_over d p
entry_at_most d [] k h = absurd (omega (arith, h))
entry_at_most d (q ∷ p) zero h = omega arith
entry_at_most d (q ∷ p) (suc k) h = omega (arith, entry_at_most d p k (omega (arith, h)))

pub common_of_rest : (d : ℕ) (q : Fraction) (p : Dense) → IsCommon d (q ∷ p) → IsCommon d p
common_of_rest d q p c = λ k h. c (suc k) (omega (arith, h))

first_whole : (z w : ℤ) (zs ws : List Fraction) → whole_fraction z ∷ zs ≡ whole_fraction w ∷ ws → z ≡ w
first_whole z w zs ws e = whole_one z w (let f : whole_fraction z ≡ whole_fraction w = cc in f)

entry_mass : (w : ℤ) (q : Fraction) (d : ℕ) → q.den ∣ d → whole_fraction w ≡ times (whole_fraction (pos d)) q → nat_abs w ≡ magnitude_over d q
entry_mass w q d c e = ap nat_abs (whole_one w (q.num *ℤ pos (d / q.den)) (e ∙ sym (scaled_entry q d c))) ∙ unsigned_abs-mul q.num (pos (d / q.den))

heads : (x y : Fraction) (xs ys : List Fraction) → x ∷ xs ≡ y ∷ ys → x ≡ y
heads x y xs ys e = cc

tails : (x y : Fraction) (xs ys : List Fraction) → x ∷ xs ≡ y ∷ ys → xs ≡ ys
tails x y xs ys e = cc

pub mass_scaled : (ws : List ℤ) (p : Dense) (d : ℕ) → IsCommon d p → fractions ws ≡ map (times (whole_fraction (pos d))) p → mass_of ws ≡ mass_over d p
mass_scaled [] [] d c e = refl
mass_scaled [] (q ∷ p) d c e = cc
mass_scaled (w ∷ ws) [] d c e = cc
mass_scaled (w ∷ ws) (q ∷ p) d c e =
    let first = entry_mass w q d (c 0 (omega arith)) (heads _ _ _ _ e) in
    let others = mass_scaled ws p d (common_of_rest d q p c) (tails _ _ _ _ e) in
    λ i. first i + others i

whole_heads : (x y : ℤ) (xs ys : List ℤ) → x ∷ xs ≡ y ∷ ys → x ≡ y
whole_heads x y xs ys e = cc

whole_tails : (x y : ℤ) (xs ys : List ℤ) → x ∷ xs ≡ y ∷ ys → xs ≡ ys
whole_tails x y xs ys e = cc

entry_shrinks : (t : Bool) (s : ℕ) (z w : ℤ) → 0 < s → with_sign t s *ℤ z ≡ w → nat_abs z ≤ nat_abs w
entry_shrinks t s z w h e =
    let m : nat_abs w ≡ s * nat_abs z = sym (ap nat_abs e) ∙ unsigned_abs-mul (with_sign t s) z ∙ ap (λ n. n * nat_abs z) (abs-with_sign t s) in
    omega (arith, m, le-mul_of_pos_right (nat_abs z) h, turned s (nat_abs z))
  where
    turned : (x y : ℕ) → x * y ≡ y * x
    turned x y = omega arith

pub mass_shrinks : (t : Bool) (s : ℕ) (zs ws : List ℤ) → 0 < s → map (λ z. with_sign t s *ℤ z) zs ≡ ws → mass_of zs ≤ mass_of ws
mass_shrinks t s [] ws h e = omega arith
mass_shrinks t s (z ∷ zs) [] h e = cc
mass_shrinks t s (z ∷ zs) (w ∷ ws) h e =
    omega (arith, entry_shrinks t s z w h (whole_heads _ _ _ _ e), mass_shrinks t s zs ws h (whole_tails _ _ _ _ e))

pub mass_dropped : (zs : List ℤ) → mass_of (drop 1 zs) ≤ mass_of zs
mass_dropped [] = omega arith
mass_dropped (z ∷ zs) = omega arith

pub item_at_most : (zs : List ℤ) (k : ℕ) → nat_abs (get_or zs k (pos 0)) ≤ mass_of zs
item_at_most [] k = omega arith
item_at_most (z ∷ zs) zero = omega arith
item_at_most (z ∷ zs) (suc k) = omega (arith, item_at_most zs k)

pub scaled_misfit : (q : Fraction) (d : ℕ) (x y : ℤ) → x ≡ q.num → y ≡ pos (d / q.den) → 2 ^ 127 ≤ nat_abs (x *ℤ y) → 2 ^ 127 ≤ magnitude_over d q
scaled_misfit q d x y e f h = subst (λ n. 2 ^ 127 ≤ n) ((λ i. nat_abs (e i *ℤ f i)) ∙ unsigned_abs-mul q.num (pos (d / q.den))) h

pub one_divides : (n : ℕ) → 1 ∣ n
one_divides n = subst (λ m. 1 ∣ m) (once n) (dvd-mul_right 1 n)
  where
    once : (n : ℕ) → 1 * n ≡ n
    once n = omega arith

-- ---- the formula

fits_small : (x : ℤ) → nat_abs x ≤ 2 ^ 126 → nat_abs x < 2 ^ 127
fits_small x h = omega (arith, h)

pub no_misfit_product : (x y : ℤ) → nat_abs x ≤ 2 ^ 62 → nat_abs y ≤ 2 ^ 62 → 2 ^ 127 ≤ nat_abs (handed x *ℤ handed y) → ⊥
no_misfit_product x y h k e =
    let f : 2 ^ 127 ≤ nat_abs (x *ℤ y) = subst (λ n. 2 ^ 127 ≤ n) (λ i. nat_abs (told x (fits_small x (omega (arith, h))) i *ℤ told y (fits_small y (omega (arith, k))) i)) e in
    omega (arith, f, small_product x y h k)

pub product_is_small : (x y z : ℤ) → nat_abs x ≤ 2 ^ 62 → nat_abs y ≤ 2 ^ 62 → z ≡ handed x *ℤ handed y → nat_abs z ≤ 2 ^ 124
product_is_small x y z h k e =
    subst (λ w. nat_abs w ≤ 2 ^ 124) (sym (e ∙ (λ i. told x (fits_small x (omega (arith, h))) i *ℤ told y (fits_small y (omega (arith, k))) i))) (small_product x y h k)

four_times : (x : ℤ) → nat_abs (pos 4 *ℤ x) ≡ 4 * nat_abs x
four_times x = unsigned_abs-mul (pos 4) x

pub no_misfit_four : (x : ℤ) → nat_abs x ≤ 2 ^ 124 → 2 ^ 127 ≤ nat_abs (pos 4 *ℤ handed x) → ⊥
no_misfit_four x h e =
    let f : 2 ^ 127 ≤ nat_abs (pos 4 *ℤ x) = subst (λ n. 2 ^ 127 ≤ n) (λ i. nat_abs (pos 4 *ℤ told x (fits_small x (omega (arith, h))) i)) e in
    omega (arith, f, h, four_times x)

pub four_is_small : (x z : ℤ) → nat_abs x ≤ 2 ^ 124 → z ≡ pos 4 *ℤ handed x → nat_abs z ≤ 2 ^ 126
four_is_small x z h e =
    let f : nat_abs z ≡ nat_abs (pos 4 *ℤ x) = ap nat_abs (e ∙ ap (λ w. pos 4 *ℤ w) (told x (fits_small x (omega (arith, h))))) in
    omega (arith, f, h, four_times x)

pub opposite_is_small : (x z : ℤ) (n : ℕ) → nat_abs x ≤ n → n ≤ 2 ^ 126 → z ≡ neg_ℤ (handed x) → nat_abs z ≤ n
opposite_is_small x z n h k e =
    let f : nat_abs z ≡ nat_abs x = ap nat_abs (e ∙ ap neg_ℤ (told x (fits_small x (omega (arith, h, k))))) ∙ abs_neg x in
    omega (arith, f, h)

sum_at_most : (x y : ℤ) → nat_abs (x +ℤ y) ≤ nat_abs x + nat_abs y
sum_at_most x y = omega (arith, ints)

pub no_misfit_sum : (x y : ℤ) → nat_abs x ≤ 2 ^ 124 → nat_abs y ≤ 2 ^ 126 → 2 ^ 127 ≤ nat_abs (handed x +ℤ handed y) → ⊥
no_misfit_sum x y h k e =
    let f : 2 ^ 127 ≤ nat_abs (x +ℤ y) = subst (λ n. 2 ^ 127 ≤ n) (λ i. nat_abs (told x (fits_small x (omega (arith, h))) i +ℤ told y (fits_small y k) i)) e in
    omega (arith, f, h, k, sum_at_most x y)

either : (n m : ℕ) → (n ≤ m) ⊎ (m < n)
either zero m = inl (omega arith)
either (suc n) zero = inr (omega arith)
either (suc n) (suc m) = more n m (either n m)
  where
    more : (n m : ℕ) → (n ≤ m) ⊎ (m < n) → (suc n ≤ suc m) ⊎ (suc m < suc n)
    more n m (inl h) = inl (omega (arith, h))
    more n m (inr h) = inr (omega (arith, h))

pub outside_is_small : (d o : ℤ) → d ≡ o *ℤ o → nat_abs d < 2 ^ 127 → nat_abs o ≤ 2 ^ 126
outside_is_small d o e h = by (either (nat_abs o) (2 ^ 64))
  where
    by : (nat_abs o ≤ 2 ^ 64) ⊎ (2 ^ 64 < nat_abs o) → nat_abs o ≤ 2 ^ 126
    by (inl k) = omega (arith, k)
    by (inr k) =
        let f : nat_abs d ≡ nat_abs o * nat_abs o = ap nat_abs e ∙ unsigned_abs-mul o o in
        let g : 2 ^ 64 * 2 ^ 64 ≤ nat_abs o * nat_abs o = product_at_most (2 ^ 64) (2 ^ 64) (nat_abs o) (nat_abs o) (omega (arith, k)) (omega (arith, k)) in
        absurd (omega (arith, f, g, h))

pub half_at_most : (h b : ℤ) → pos 2 *ℤ h ≡ b → nat_abs h ≤ nat_abs b
half_at_most h b e = let f : nat_abs b ≡ 2 * nat_abs h = ap nat_abs (sym e) ∙ unsigned_abs-mul (pos 2) h in omega (arith, f)

pub handed_item : (zs : List ℤ) (k : ℕ) (x : ℤ) → nat_abs x < 2 ^ 127 → x ≡ get_or zs k (pos 0) → mass_of zs ≤ 2 ^ 62 → nat_abs (handed x) ≤ 2 ^ 62
handed_item zs k x f e h = let g : nat_abs (handed x) ≡ nat_abs (get_or zs k (pos 0)) = ap nat_abs (told x f ∙ e) in omega (arith, g, item_at_most zs k, h)

power_grows : (i j : ℕ) → i ≤ j → 2 ^ i ≤ 2 ^ j
power_grows i j h = let p : 0 < 2 = omega arith in pow-le-pow_right p h

pub held_has_few_bits : (p : Dense) (d h l : ℕ) → 0 < d → IsCommon d p → d ≤ 2 ^ l → mass_over d p ≤ d * 2 ^ h → h + l ≤ 62 → HasFewBits p
held_has_few_bits p d h l positive common low high few = record {
  denominator = d;
  positive = positive;
  fits = omega (arith, low, small);
  common = common;
  few = omega (arith, high, both, sum, whole);
}
  where
    small : 2 ^ l ≤ 2 ^ 62
    small = power_grows l 62 (omega (arith, few))

    whole : 2 ^ (l + h) ≤ 2 ^ 62
    whole = power_grows (l + h) 62 (omega (arith, few))

    sum : 2 ^ (l + h) ≡ 2 ^ l * 2 ^ h
    sum = pow-add 2 l h

    both : d * 2 ^ h ≤ 2 ^ l * 2 ^ h
    both = product_at_most d (2 ^ h) (2 ^ l) (2 ^ h) low (omega arith)
