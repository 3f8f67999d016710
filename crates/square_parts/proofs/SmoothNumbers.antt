-- Products of numbers up to the trial limit, and numbers without such divisors.
use Rattle.square_parts.proofs.Shared.{◌≡◌, ℕ, ◌*◌, ◌<◌, ◌≤◌, ◌⊎◌, inl, inr, sym, subst, arith, IsGcd, ◌∣◌, dvd_refl, dvd_trans, dvd_antisymm, le_of_dvd}
use Rattle.square_parts.proofs.Shared.{dvd-mul_right, pos_of_dvd_of_pos, eq-one_of_dvd-one, gcd, gcd_is, trial_limit, IsCoprime, IsCoprime-swap, IsCoprime-from_gcd, other_factor, IsSmooth}

-- no number from 2 to the trial limit divides n
pub record IsRough (n : ℕ) : Type 0 where
  pub none : (e : ℕ) → 2 ≤ e → e ≤ trial_limit → e ∣ n → ⊥

-- a number is 0, 1 or at least 2
pub sizes : (n : ℕ) → (n ≡ 0) ⊎ (n ≡ 1) ⊎ (2 ≤ n)
sizes n = grind arith

-- numbers whose common divisors above 1 are excluded have none
pub IsCoprime-from : (a b : ℕ) → 0 < b → ((d : ℕ) → 2 ≤ d → d ∣ a → d ∣ b → ⊥) → IsCoprime a b
IsCoprime-from a b positive h = record { common = λ d da db. by d da db (sizes d) }
  where
    by : (d : ℕ) → d ∣ a → d ∣ b → (d ≡ 0) ⊎ (d ≡ 1) ⊎ (2 ≤ d) → d ∣ 1
    by d da db (inl e) = absurd (let z : 0 < d = pos_of_dvd_of_pos db positive in omega arith)
    by d da db (inr (inl e)) = subst (λ n. n ∣ 1) (sym e) (dvd_refl 1)
    by d da db (inr (inr two)) = absurd (h d two da db)

-- two numbers have a common divisor above 1 or are coprime
pub common_or_coprime : (a b : ℕ) → 0 < b → ((g : ℕ) × (2 ≤ g) × (g ∣ a) × (g ∣ b)) ⊎ IsCoprime a b
common_or_coprime a b positive = by (gcd a b) (gcd_is a b) (sizes (gcd a b))
  where
    by : (g : ℕ) → IsGcd a b g → (g ≡ 0) ⊎ (g ≡ 1) ⊎ (2 ≤ g) → ((g : ℕ) × (2 ≤ g) × (g ∣ a) × (g ∣ b)) ⊎ IsCoprime a b
    by g is (inl e) = absurd (let z : 0 < g = pos_of_dvd_of_pos (is.1) positive in omega arith)
    by g is (inr (inl e)) = inr (IsCoprime-from_gcd a b (subst (λ n. IsGcd a b n) e is))
    by g is (inr (inr two)) = inl (g, two, is.0, is.1)

pub IsSmooth-one : IsSmooth 1
IsSmooth-one = record { within = λ e two d. absurd (let one : e ≡ 1 = eq-one_of_dvd-one d in omega arith) }

-- a number up to the limit is smooth
pub IsSmooth-small : (n : ℕ) → 0 < n → n ≤ trial_limit → IsSmooth n
IsSmooth-small n positive le = record { within = λ e two d. (e, two, (let below : e ≤ n = le_of_dvd positive d in omega arith), dvd_refl e) }

pub IsSmooth-mul : (a b : ℕ) → 0 < a → IsSmooth a → IsSmooth b → IsSmooth (a * b)
IsSmooth-mul a b positive h k = record { within = λ e two d. by e two d (common_or_coprime e a positive) }
  where
    by : (e : ℕ) → 2 ≤ e → e ∣ a * b → ((g : ℕ) × (2 ≤ g) × (g ∣ e) × (g ∣ a)) ⊎ IsCoprime e a → (f : ℕ) × (2 ≤ f) × (f ≤ trial_limit) × (f ∣ e)
    by e two d (inl (g, g-two, ge, ga)) = let (f, f-two, le, fg) = h.within g g-two ga in (f, f-two, le, dvd_trans f fg ge)
    by e two d (inr apart) = k.within e two (other_factor e a b (IsCoprime-swap e a apart) (subst (λ n. e ∣ n) (omega arith) d))

-- smooth and rough numbers have no common divisor
pub smooth_rough : (k n : ℕ) → 0 < n → IsSmooth k → IsRough n → IsCoprime k n
smooth_rough k n positive smooth rough = IsCoprime-from k n positive (λ d two dk dn. let (f, f-two, le, fd) = smooth.within d two dk in rough.none f f-two le (dvd_trans f fd dn))

-- a number splits into a smooth and a rough one in one way
pub one_rough_part : (n k m j : ℕ) → 0 < n → 0 < m → IsSmooth k → IsSmooth j → IsRough n → IsRough m → n * k ≡ m * j → n ≡ m
one_rough_part n k m j n-positive m-positive k-smooth j-smooth n-rough m-rough e = dvd_antisymm forward back
  where
    forward : n ∣ m
    forward = other_factor n j m (smooth_rough j n n-positive j-smooth n-rough) (subst (λ x. n ∣ x) e (dvd-mul_right n k))

    back : m ∣ n
    back = other_factor m k n (smooth_rough k m m-positive k-smooth m-rough) (subst (λ x. m ∣ x) (sym e) (dvd-mul_right m j))

pub IsRough-mul : (a b : ℕ) → 0 < a → IsRough a → IsRough b → IsRough (a * b)
IsRough-mul a b positive h k = record { none = λ e two le d. by e two le d (common_or_coprime e a positive) }
  where
    by : (e : ℕ) → 2 ≤ e → e ≤ trial_limit → e ∣ a * b → ((g : ℕ) × (2 ≤ g) × (g ∣ e) × (g ∣ a)) ⊎ IsCoprime e a → ⊥
    by e two le d (inl (g, g-two, ge, ga)) =
        let e-positive : 0 < e = omega arith in
        let below : g ≤ e = le_of_dvd e-positive ge in
        h.none g g-two (omega arith) ga
    by e two le d (inr apart) = k.none e two le (other_factor e a b (IsCoprime-swap e a apart) (subst (λ n. e ∣ n) (omega arith) d))
