-- Powers of whole numbers, by squares.
use Rattle.rational128.proofs.Shared.{◌≡◌, ◌≢◌, ℕ, zero, suc, ◌+◌, ◌*◌, ◌/◌, ◌%◌, ◌^◌, ◌<◌, ◌≤◌, refl, sym, ap, ◌∙◌, arith, pow-add, mul-pow, mul-le}
use Rattle.rational128.proofs.Shared.{pow-zero, pow-suc, one-le-pow, pow-le-pow_left, pow-le-pow_right}

-- p * s ^ k is the power that is sought, of which k is left
pub record IsPowering (base exponent p s k : ℕ) : Type 0 where
  pub p_positive : 1 ≤ p
  pub s_positive : 1 ≤ s
  pub left : 1 ≤ k
  pub whole : p * s ^ k ≡ base ^ exponent

power_grows : (p s k : ℕ) → 1 ≤ s → 1 ≤ k → p * s ≤ p * s ^ k
power_grows p s zero h l = absurd (omega arith)
power_grows p s (suc k) h l =
    let one : 1 ≤ s ^ k = one-le-pow k s h in
    let step : 1 * s ≤ s ^ k * s = mul-le 1 s (s ^ k) s one (omega arith) in
    let e : s ^ suc k ≡ s ^ k * s = pow-suc s k in
    mul-le p s p (s ^ suc k) (omega arith) (omega arith)

pub unfit_product : (b e p s k : ℕ) → IsPowering b e p s k → ¬ (p * s < 2 ^ 127) → ¬ (b ^ e < 2 ^ 127)
unfit_product b e p s k h refused fits = refused (omega (arith, power_grows p s k h.s_positive h.left, h.whole))

pub unfit_square : (b e p s k : ℕ) → IsPowering b e p s k → ¬ (s < 2 ^ 127) → ¬ (b ^ e < 2 ^ 127)
unfit_square b e p s k h l m = grind (arith, power_grows)

halves : (s k : ℕ) → (s * s) ^ k ≡ s ^ (k + k)
halves s k = mul-pow s s k ∙ sym (pow-add s k k)

pub positive_product : (p s : ℕ) → 1 ≤ p → 1 ≤ s → 1 ≤ p * s
positive_product p s h k = mul-le 1 1 p s h k

-- a turn halves what is left
odd_turn : (b e p s k : ℕ) → IsPowering b e p s k → 1 < k → k % 2 ≡ 1 → IsPowering b e (p * s) (s * s) (k / 2)
odd_turn b e p s k h more odd =
    let split : k ≡ suc (k / 2 + k / 2) = omega arith in
    let power : s ^ k ≡ s ^ (k / 2 + k / 2) * s = ap (λ n. s ^ n) split ∙ pow-suc s (k / 2 + k / 2) in
    record {
      p_positive = positive_product p s h.p_positive h.s_positive;
      s_positive = positive_product s s h.s_positive h.s_positive;
      left = omega arith;
      whole = ap (λ n. (p * s) * n) (halves s (k / 2)) ∙ omega arith ∙ ap (λ n. p * n) (sym power) ∙ h.whole;
    }

even_turn : (b e p s k : ℕ) → IsPowering b e p s k → 1 < k → k % 2 ≢ 1 → IsPowering b e p (s * s) (k / 2)
even_turn b e p s k h l m = grind (arith, positive_product, halves)

pub last_product : (b e p s k : ℕ) → IsPowering b e p s k → k ≤ 1 → p * s ≡ b ^ e
last_product b e p s k h last =
    let one : k ≡ 1 = omega (arith, h.left) in
    let once : s ^ 1 ≡ s = pow-suc s 0 ∙ ap (λ n. n * s) (pow-zero s) ∙ omega arith in
    ap (λ n. p * n) (sym once) ∙ ap (λ n. p * s ^ n) (sym one) ∙ h.whole

pub starts : (b e : ℕ) → 1 ≤ b → 1 ≤ e → IsPowering b e 1 b e
starts b e h k = record { p_positive = omega arith; s_positive = h; left = k; whole = omega arith }

-- ---- small bases, and large exponents

pub small_base : (b e : ℕ) → b ≤ 1 → 1 ≤ e → b ^ e ≡ b
small_base zero zero h k = absurd (omega arith)
small_base zero (suc e) h k = pow-suc 0 e ∙ omega arith
small_base (suc zero) e h k = ones e
  where
    ones : (e : ℕ) → 1 ^ e ≡ 1
    ones zero = refl
    ones (suc e) = pow-suc 1 e ∙ omega (arith, ones e)
small_base (suc (suc b)) e h k = absurd (omega arith)

pub large_exponent : (b e : ℕ) → 1 < b → 127 ≤ e → ¬ (b ^ e < 2 ^ 127)
large_exponent b e h k fits =
    let two : 0 < 2 = omega arith in
    let above : 2 ^ e ≤ b ^ e = pow-le-pow_left (let le : 2 ≤ b = omega arith in le) e in
    let far : 2 ^ 127 ≤ 2 ^ e = pow-le-pow_right two k in
    omega arith

-- a turn after the product and the square that were made
pub turn : (b e p s k p' s' : ℕ) → IsPowering b e p s k → 1 < k → (k % 2 ≡ 1 → p' ≡ p * s) → (k % 2 ≢ 1 → p' ≡ p) → s' ≡ s * s → IsPowering b e p' s' (k / 2)
turn b e p s k p' s' h more odd even square = by (k % 2) refl
  where
    by : (r : ℕ) → k % 2 ≡ r → IsPowering b e p' s' (k / 2)
    by zero z =
        let not_one : k % 2 ≢ 1 = omega arith in
        rw (square, even not_one) (even_turn b e p s k h more not_one)
    by (suc r) z =
        let one : k % 2 ≡ 1 = omega arith in
        rw (square, odd one) (odd_turn b e p s k h more one)
