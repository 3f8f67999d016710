-- A clean radicand below 10^12 is square-free, and square-free radicands that are alike are equal.
use Rattle.calc_algebra.proofs.Shared.{◌≡◌, ℕ, zero, suc, ◌*◌, ◌/◌, ◌≤◌, ◌<◌, ◌^◌, ◌⊎◌, inl, inr, true, sym, ap, ◌∙◌, arith, subst, dvd_trans, left_of, is_clean, IsClean, mul_pos, gcd, gcd_is, gauss}
use Rattle.calc_algebra.proofs.Shared.{divided, are_alike, square_root, IsGcd, mul-one, mul-dvd-mul_left, dvd-mul_right, IsTried, empty_product, one_factor_more, dvd-mul_left, dvd-zero, one-dvd}
use Rattle.calc_algebra.proofs.{Shared.{mul-div_cancel', dvd_refl, ◌∣◌, le_of_dvd}, ComputedNumbers.{left_of_free, left_of_tried}, SquareRootLaws.{mul_cancel}, NumberLaws.{clean_words}}
use Rattle.calc_algebra.proofs.SquareClassLaws.{Alike, alike_from}
use Rattle.calc_terms.proofs.SmallLaws.{positive_factor as factor_pos}

-- no square of a number above 1 divides r
abbrev pub IsSquareFree : ℕ → Type 0
IsSquareFree r = (d : ℕ) → 1 < d → d * d ∣ r → ⊥

-- ---- trial division of s * k, where no divisor that is tried has a common divisor with s

-- what was divided out of s * k divides k
tried_divides : {m : ℕ} → IsTried m → (x s k : ℕ) → ((c : ℕ) → 2 ≤ c → c < 10001 → (n : ℕ) → c ∣ s * n → c ∣ n) → x * m ≡ s * k → (j : ℕ) × (x ≡ s * j) × (j ∣ k)
tried_divides empty_product x s k apart e = (k, sym (mul-one x) ∙ e, dvd_refl k)
tried_divides (one_factor_more {d} {m} h l t) x s k apart e =
    let p : d ∣ k = apart d h (omega arith) k (subst (λ n. d ∣ n) (omega (arith, e)) (dvd-mul_right d (x * m))) in
    let f : d * (k / d) ≡ k = mul-div_cancel' d p in
    let (j, q, r) = tried_divides t x s (k / d) apart (mul_cancel (x * m) (s * (k / d)) d (omega arith) (omega (arith, e, ap (λ n. s * n) f))) in
    (j, q, dvd_trans j r (subst (λ n. k / d ∣ n) f (dvd-mul_left (k / d) d)))

-- ---- clean radicands

few_left : (d k r : ℕ) → 10000 < d → d * d * k ≡ r → r < 10 ^ 12 → k < 10001
few_left d k r h e l = grind arith

pub clean_positive : (r : ℕ) → IsClean r → 0 < r
clean_positive zero c = absurd (c.no_square 2 (omega arith) (omega arith) (dvd-zero 4))
clean_positive (suc r) c = omega arith

order : (a b : ℕ) → (a ≤ b) ⊎ (b < a)
order a b = grind arith

-- a clean radicand is no square of a number above 1 times a number up to 10,000
clean_square_times_small : (r d k : ℕ) → IsClean r → 1 < d → d * d * k ≡ r → k < 10001 → ⊥
clean_square_times_small r d k c h e l = by (order d 10000)
  where
    x : d * d ∣ r
    x = subst (λ n. d * d ∣ n) e (dvd-mul_right (d * d) k)

    apart : (c : ℕ) → 2 ≤ c → c < 10001 → (m : ℕ) → c ∣ d * d * m → c ∣ m
    apart e u v m y =
        let one : IsGcd d e 1 = (one-dvd d, one-dvd e, common) in
        gauss d e m one (gauss d e (m * d) one (subst (λ n. e ∣ n) (omega arith) y))
      where
        square : (z : ℕ) → z ∣ d → z * z ∣ d * d
        square z a = let f : z * (d / z) ≡ d = mul-div_cancel' z a in subst (λ n. z * z ∣ n) (omega (arith, ap (λ n. n * n) f)) (dvd-mul_right (z * z) ((d / z) * (d / z)))

        common : (z : ℕ) → z ∣ d → z ∣ e → z ∣ 1
        common zero a b = absurd (let f : 0 * (e / 0) ≡ e = mul-div_cancel' 0 b in omega arith)
        common (suc zero) a b = dvd_refl 1
        common (suc (suc z)) a b =
            absurd (c.no_square (suc (suc z)) (omega arith) (omega (arith, le_of_dvd {n = e} (omega arith) b)) (dvd_trans (suc (suc z) * suc (suc z)) (square (suc (suc z)) a) x))

    rp : 0 < r
    rp = clean_positive r c

    -- what is left is d * d, where the rest of it divides k
    whole : (j : ℕ) → left_of r ≡ d * d * j → j ∣ k → left_of r ≡ d * d
    whole zero f g = absurd (let z : 0 * (k / 0) ≡ k = mul-div_cancel' 0 g in omega (arith, factor_pos (d * d) k r e rp))
    whole (suc zero) f g = f ∙ mul-one (d * d)
    whole (suc (suc j)) f g =
        absurd (left_of_free r (suc (suc j)) rp (omega arith) (omega (arith, le_of_dvd (factor_pos (d * d) k r e rp) g)) (subst (λ n. suc (suc j) ∣ n) (sym f) (dvd-mul_left (suc (suc j)) (d * d))))

    by : (d ≤ 10000) ⊎ (10000 < d) → ⊥
    by (inl u) = c.no_square d h u x
    by (inr u) = let (m, t, q) = left_of_tried r rp in let (j, f, g) = tried_divides t (left_of r) (d * d) k apart (sym q ∙ sym e) in c.no_rest d h (whole j f g)

-- a clean radicand below 10^12 has no square divisor above 1
pub clean_square_free : (r : ℕ) → IsClean r → r < 10 ^ 12 → IsSquareFree r
clean_square_free r c l = grind (arith, mul-div_cancel', order, clean_square_times_small, few_left)

-- a clean radicand is no square above 1, however great
pub clean_no_square : (d : ℕ) → IsClean (d * d) → 1 < d → ⊥
clean_no_square d c h = clean_square_times_small (d * d) d 1 c h (mul-one (d * d)) (omega arith)

-- the same from the test
pub is_clean_square_free : (r : ℕ) → is_clean r ≡ true → r < 10 ^ 12 → IsSquareFree r
is_clean_square_free r h = clean_square_free r (clean_words r h)

pub one_square_free : IsSquareFree 1
one_square_free d h x = absurd (omega (arith, squared d h, le_of_dvd {m = d * d} (omega arith) x))
  where
    squared : (d : ℕ) → 1 < d → 1 < d * d
    squared d h = grind arith

-- ---- square-free radicands

cancelled : (g a b s : ℕ) → 0 < g → (g * b) * (g * b) ≡ (g * a) * s → g * b * b ≡ a * s
cancelled g a b s h e = mul_cancel (g * b * b) (a * s) g h (omega (arith, e))

alike_square_free_is : (r s t : ℕ) → Alike r s t → IsSquareFree r → IsSquareFree s → r ≡ s
alike_square_free_is r s t h u v =
    let g : ℕ = gcd r t in
    let is : IsGcd r t g = gcd_is r t in
    let ea : g * (r / g) ≡ r = mul-div_cancel' g is.0 in
    let eb : g * (t / g) ≡ t = mul-div_cancel' g is.1 in
    by g (r / g) (t / g) ea eb (divided r t g (factor_pos (t / g) g t (omega (arith, eb)) h.positive) is)
  where
    one : (n : ℕ) → 0 < n → (1 < n → ⊥) → n ≡ 1
    one n p q = omega arith

    by : (g a b : ℕ) → g * a ≡ r → g * b ≡ t → IsGcd a b 1 → r ≡ s
    by g a b ea eb (x, y, best) =
        let gp : 0 < g = factor_pos b g t (omega (arith, eb)) h.positive in
        let rp : 0 < r = factor_pos s r (t * t) (omega (arith, h.square)) (mul_pos t t h.positive h.positive) in
        let ap' : 0 < a = factor_pos g a r ea rp in
        let e : g * b * b ≡ a * s = cancelled g a b s gp ((λ i. eb i * eb i) ∙ h.square ∙ ap (λ n. n * s) (sym ea)) in
        let c : IsGcd b a 1 = (y, x, λ d p q. best d q p) in
        let da : a ∣ g = gauss b a g c (gauss b a (g * b) c (subst (λ n. a ∣ n) (sym e) (dvd-mul_right a s))) in
        let a1 : a ≡ 1 = one a ap' (λ l. u a l (subst (λ n. a * a ∣ n) (omega (arith, ea)) (mul-dvd-mul_left a a da))) in
        let bb : b * b ∣ s = subst (λ n. b * b ∣ n) (omega (arith, e, ap (λ n. n * s) a1)) (dvd-mul_left (b * b) g) in
        let b1 : b ≡ 1 = one b (factor_pos g b t eb h.positive) (λ l. v b l bb) in
        let e1 : g ≡ s = omega (arith, e, ap (λ n. n * s) a1, ap (λ n. g * n * n) b1) in
        let e2 : g ≡ r = omega (arith, ea, ap (λ n. g * n) a1) in
        sym e2 ∙ e1

-- square-free radicands that are alike are equal
pub alike_square_free : (r s : ℕ) → are_alike r s ≡ true → IsSquareFree r → IsSquareFree s → r ≡ s
alike_square_free r s h = alike_square_free_is r s (square_root (r * s)) (alike_from r s h)
