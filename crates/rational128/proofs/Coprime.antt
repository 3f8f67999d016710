-- Numbers without a common divisor, and divisors of signed numbers.
use Rattle.rational128.proofs.Shared.{◌≡◌, ℕ, zero, suc, ◌*◌, ◌/◌, ◌<◌, ℤ, pos, negsuc, ◌+ℤ◌, ◌*ℤ◌, neg_ℤ, refl, sym, ◌∙◌, subst, arith, nat_abs, IsGcd}
use Rattle.rational128.proofs.Shared.{◌∣◌, ints, unsigned_abs-mul, dvd_trans, dvd-mul_left, one-dvd, pos_of_dvd_of_pos, gauss, divided, over, over_back, parts, diffs, eq_diff}

-- only 1 divides both
pub record IsCoprime (a b : ℕ) : Type 0 where
  pub common : (d : ℕ) → d ∣ a → d ∣ b → d ∣ 1

pub IsGcd-from_coprime : (a b : ℕ) → IsCoprime a b → IsGcd a b 1
IsGcd-from_coprime a b h = (one-dvd a, one-dvd b, h.common)

pub IsCoprime-from_gcd : (a b : ℕ) → IsGcd a b 1 → IsCoprime a b
IsCoprime-from_gcd a b h = record { common = h.2 }

pub IsCoprime-swap : (a b : ℕ) → IsCoprime a b → IsCoprime b a
IsCoprime-swap a b h = record { common = λ d db da. h.common d da db }

-- divisors of numbers without a common divisor have none
pub IsCoprime-divisors : (a b c d : ℕ) → c ∣ a → d ∣ b → IsCoprime a b → IsCoprime c d
IsCoprime-divisors a b c d ca db h = record { common = λ e ec ed. h.common e (dvd_trans e ec ca) (dvd_trans e ed db) }

-- what divides a product and has no divisor in common with one factor divides the other
pub other_factor : (d a b : ℕ) → IsCoprime a d → d ∣ b * a → d ∣ b
other_factor d a b h = gauss a d b (IsGcd-from_coprime a d h)

pub IsCoprime-mul : (w a b : ℕ) → IsCoprime w a → IsCoprime w b → IsCoprime w (a * b)
IsCoprime-mul w a b h k = record {
  common = λ d dw dab. k.common d dw (other_factor d a b (record { common = λ e ea ed. h.common e (dvd_trans e ed dw) ea }) (subst (λ n. d ∣ n) (omega arith) dab));
}

pub quotients_coprime : (a b g : ℕ) → 0 < b → IsGcd a b g → IsCoprime (a / g) (b / g)
quotients_coprime a b g positive h = IsCoprime-from_gcd _ _ (divided a b g (pos_of_dvd_of_pos (h.1) positive) h)

pub factor_divides : (g k n : ℕ) → g * k ≡ n → k ∣ n
factor_divides g k n e = subst (λ m. k ∣ m) e (dvd-mul_left k g)

-- ---- signed numbers

abs_multiple : (k : ℤ) (d : ℕ) → d ∣ nat_abs (k *ℤ pos d)
abs_multiple k d = subst (λ n. d ∣ n) (sym (unsigned_abs-mul k (pos d))) (dvd-mul_left d (nat_abs k))

-- a divisor of two numbers divides their sum and their difference
pub dvd-sum : (d : ℕ) (x y : ℤ) → d ∣ nat_abs x → d ∣ nat_abs y → d ∣ nat_abs (x +ℤ y)
dvd-sum d x y dx dy =
    let e : (over x d +ℤ over y d) *ℤ pos d ≡ x +ℤ y = distributes (over x d) (over y d) d ∙ (λ i. over_back x d dx i +ℤ over_back y d dy i) in
    subst (λ z. d ∣ nat_abs z) e (abs_multiple (over x d +ℤ over y d) d)
  where
    distributes : (a b : ℤ) (d : ℕ) → (a +ℤ b) *ℤ pos d ≡ a *ℤ pos d +ℤ b *ℤ pos d
    distributes a b d = rw (parts a, parts b) (simp diffs (eq_diff _ _ _ _ (omega arith)))

pub dvd-difference : (d : ℕ) (x y : ℤ) → d ∣ nat_abs (x +ℤ y) → d ∣ nat_abs y → d ∣ nat_abs x
dvd-difference d x y dz dy =
    let negated : d ∣ nat_abs (neg_ℤ y) = subst (λ n. d ∣ n) (abs_neg y) dy in
    let e : (x +ℤ y) +ℤ neg_ℤ y ≡ x = omega (arith, ints) in
    subst (λ z. d ∣ nat_abs z) e (dvd-sum d (x +ℤ y) (neg_ℤ y) dz negated)
  where
    abs_neg : (y : ℤ) → nat_abs y ≡ nat_abs (neg_ℤ y)
    abs_neg (pos zero) = refl
    abs_neg (pos (suc n)) = refl
    abs_neg (negsuc n) = refl
