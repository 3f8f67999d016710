-- Common divisors and factors of 2.
use Rattle.rational128.proofs.Shared.{◌≡◌, ℕ, zero, suc, ◌+◌, ◌-◌, ◌*◌, ◌/◌, ◌%◌, ◌^◌, ◌<◌, ◌≤◌, min, max, ◌≢◌, ◌⊎◌, inl, inr, refl, sym, ap}
use Rattle.rational128.proofs.Shared.{◌∙◌, subst, arith, IsGcd, Width, trailing_zeros, bit_at, ◌∣◌, mod-pow-add, pow_pos, pow-add, shr_le, bit_at-trailing_zeros, IsGcd-swap}
use Rattle.rational128.proofs.Shared.{IsGcd-from_sub, dvd_refl, le_of_dvd, mod-eq_of_lt, mul-div_cancel', dvd-mul_right, dvd-mul_left_of_dvd, one-dvd, pow-suc, IsGcd-scaled, bits}

-- the multiple m of d
multiple : (d n : ℕ) → d ∣ n → d * (n / d) ≡ n
multiple d n h = mul-div_cancel' d h

-- an odd divisor of 2w divides w
half_divided : (d w : ℕ) → d % 2 ≡ 1 → d ∣ 2 * w → d ∣ w
half_divided d w odd h =
    let m : ℕ = 2 * w / d in
    let e : ℕ = d / 2 in
    let split : d ≡ 2 * e + 1 = omega arith in
    let whole : (2 * e + 1) * m ≡ 2 * w = ap (λ x. x * m) (sym split) ∙ multiple d (2 * w) h in
    let k : ℕ = w - e * m in
    let even : m ≡ 2 * k = omega arith in
    let back : d * k ≡ w = ap (λ x. x * k) split ∙ omega (arith, ap (λ x. e * x) even) in
    subst (λ n. d ∣ n) back (dvd-mul_right d k)

odd_divided : (k d w : ℕ) → d % 2 ≡ 1 → d ∣ 2 ^ k * w → d ∣ w
odd_divided zero d w odd h = subst (λ n. d ∣ n) (omega arith) h
odd_divided (suc k) d w odd h =
    let e : 2 ^ suc k * w ≡ 2 * (2 ^ k * w) = omega (arith, ap (λ x. x * w) (pow-suc 2 k)) in
    odd_divided k d w odd (half_divided d (2 ^ k * w) odd (subst (λ n. d ∣ n) e h))

-- a divisor of an odd number is odd
odd_divisor : (d x : ℕ) → x % 2 ≡ 1 → d ∣ x → d % 2 ≡ 1
odd_divisor d x odd h = by (d % 2) refl
  where
    m : ℕ
    m = x / d

    by : (r : ℕ) → d % 2 ≡ r → d % 2 ≡ 1
    by zero e =
        let even : d ≡ 2 * (d / 2) = omega arith in
        let whole : 2 * ((d / 2) * m) ≡ x = omega (arith, ap (λ n. n * m) even, multiple d x h) in
        absurd (omega arith)
    by (suc r) e = omega arith

-- factors of 2 beside an odd number change no common divisor
pub IsGcd-odd : (k x y g : ℕ) → x % 2 ≡ 1 → IsGcd x y g → IsGcd x (2 ^ k * y) g
IsGcd-odd k x y g odd (gx, gy, best) = (gx, dvd-mul_left_of_dvd _ gy (2 ^ k), λ d dx dy. best d dx (odd_divided k d y (odd_divisor d x odd dx) dy))

twos_left : (i k x y g : ℕ) → x % 2 ≡ 1 → IsGcd x y g → IsGcd (2 ^ i * x) (2 ^ (i + k) * y) (2 ^ i * g)
twos_left i k x y g odd h =
    let e : 2 ^ i * (2 ^ k * y) ≡ 2 ^ (i + k) * y = omega (arith, ap (λ n. n * y) (pow-add 2 i k)) in
    subst (λ n. IsGcd (2 ^ i * x) n (2 ^ i * g)) e (IsGcd-scaled (2 ^ i) x (2 ^ k * y) g (pow_pos i) (IsGcd-odd k x y g odd h))

-- the factors of 2 of both numbers
pub IsGcd-twos : (i j x y g : ℕ) → x % 2 ≡ 1 → y % 2 ≡ 1 → IsGcd x y g → IsGcd (2 ^ i * x) (2 ^ j * y) (2 ^ (min i j) * g)
IsGcd-twos i j x y g x-odd y-odd h = by (order i j)
  where
    order : (i j : ℕ) → (i ≤ j) ⊎ (j ≤ i)
    order i j = grind arith

    by : (i ≤ j) ⊎ (j ≤ i) → IsGcd (2 ^ i * x) (2 ^ j * y) (2 ^ (min i j) * g)
    by (inl le) =
        let sum : i + (j - i) ≡ j = omega arith in
        let least : min i j ≡ i = omega arith in
        rw least (subst (λ n. IsGcd (2 ^ i * x) (2 ^ n * y) (2 ^ i * g)) sum (twos_left i (j - i) x y g x-odd h))
    by (inr le) =
        let sum : j + (i - j) ≡ i = omega arith in
        let least : min i j ≡ j = omega arith in
        rw least (IsGcd-swap _ _ _ (subst (λ n. IsGcd (2 ^ j * y) (2 ^ n * x) (2 ^ j * g)) sum (twos_left j (i - j) y x g y-odd (IsGcd-swap x y g h))))

low_zero : (k n : ℕ) → ((i : ℕ) → i < k → bit_at n i ≡ 0) → n % 2 ^ k ≡ 0
low_zero zero n h = omega arith
low_zero (suc k) n h =
    let e : suc k ≡ 1 + k = omega arith in
    let low : n % 2 ^ k ≡ 0 = low_zero k n (λ i lt. h i (omega arith)) in
    let bit : n / 2 ^ k % 2 ≡ 0 = h k (omega arith) in
    ap (λ x. n % 2 ^ x) e ∙ mod-pow-add n 1 k ∙ rw (bit, low) (omega arith)

-- n is a power of 2 times an odd number
pub record SplitsTwos (w : Width) (n : ℕ) : Type 0 where
  pub below : trailing_zeros w n < bits w
  pub whole : 2 ^ (trailing_zeros w n) * (n / 2 ^ (trailing_zeros w n)) ≡ n
  pub odd : (n / 2 ^ (trailing_zeros w n)) % 2 ≡ 1

pub splits_twos : (w : Width) (n : ℕ) → 0 < n → n < 2 ^ bits w → SplitsTwos w n
splits_twos w n h k = grind (arith, bit_at-trailing_zeros, multiple, low_zero)

-- a turn of the binary algorithm at two odd numbers that differ
pub record IsTurn (w : Width) (x y low n : ℕ) : Type 0 where
  pub below : trailing_zeros w n < bits w
  pub low_odd : low % 2 ≡ 1
  pub rest_odd : n / 2 ^ (trailing_zeros w n) % 2 ≡ 1
  pub keeps : (g : ℕ) → IsGcd low (n / 2 ^ (trailing_zeros w n)) g → IsGcd x y g
  pub smaller : low + n / 2 ^ (trailing_zeros w n) < x + y

pub turns : (w : Width) (x y low high : ℕ) → x % 2 ≡ 1 → y % 2 ≡ 1 → x ≢ y → low ≡ min x y → high ≡ max x y → high < 2 ^ bits w → IsTurn w x y low (high - low)
turns w x y low high x-odd y-odd differ low-is high-is small = by (order x y)
  where
    n : ℕ
    n = high - low

    split : SplitsTwos w n
    split = splits_twos w n (omega arith) (omega arith)

    rest : ℕ
    rest = n / 2 ^ (trailing_zeros w n)

    order : (x y : ℕ) → (x ≤ y) ⊎ (y ≤ x)
    order x y = grind arith

    shrinks : rest ≤ n
    shrinks = shr_le n (trailing_zeros w n)

    odd_step : (a b g : ℕ) → a % 2 ≡ 1 → a ≤ b → n ≡ b - a → IsGcd a rest g → IsGcd b a g
    odd_step a b g odd le e h = IsGcd-from_sub b a g le (IsGcd-swap a (b - a) g (subst (λ m. IsGcd a m g) (split.whole ∙ e) (IsGcd-odd (trailing_zeros w n) a rest g odd h)))

    by : (x ≤ y) ⊎ (y ≤ x) → IsTurn w x y low n
    by (inl le) =
        let e : low ≡ x = omega arith in
        let d : n ≡ y - x = omega arith in
        record {
          below = split.below;
          low_odd = ap (λ m. m % 2) e ∙ x-odd;
          rest_odd = split.odd;
          keeps = λ g h. IsGcd-swap y x g (odd_step x y g x-odd le d (subst (λ m. IsGcd m rest g) e h));
          smaller = omega arith;
        }
    by (inr le) =
        let e : low ≡ y = omega arith in
        let d : n ≡ x - y = omega arith in
        record {
          below = split.below;
          low_odd = ap (λ m. m % 2) e ∙ y-odd;
          rest_odd = split.odd;
          keeps = λ g h. odd_step y x g y-odd le d (subst (λ m. IsGcd m rest g) e h);
          smaller = omega arith;
        }

-- one number alone is its own divisor
pub IsGcd-same : (a b : ℕ) → a ≡ b → IsGcd a b a
IsGcd-same a b e = (dvd_refl a, subst (λ n. a ∣ n) e (dvd_refl a), λ d da db. da)

-- the lesser and the greater of two numbers have their divisors
pub IsGcd-ordered : (x y low high g : ℕ) → low ≡ min x y → high ≡ max x y → IsGcd low high g → IsGcd x y g
IsGcd-ordered x y low high g low-is high-is h = by (order x y)
  where
    order : (x y : ℕ) → (x ≤ y) ⊎ (y ≤ x)
    order x y = grind arith

    by : (x ≤ y) ⊎ (y ≤ x) → IsGcd x y g
    by (inl le) =
        let e : low ≡ x = omega arith in
        let d : high ≡ y = omega arith in
        rw (← e, ← d) h
    by (inr le) =
        let e : low ≡ y = omega arith in
        let d : high ≡ x = omega arith in
        rw (← e, ← d) (IsGcd-swap _ _ _ h)

-- the answer from the odd parts of both numbers, in the bits of the type
pub IsGcd-from_odd : (w : Width) (a b g m : ℕ) → 0 < a → 0 < b → a < 2 ^ bits w → b < 2 ^ bits w
    → IsGcd (a / 2 ^ (trailing_zeros w a)) (b / 2 ^ (trailing_zeros w b)) g
    → m ≡ min (trailing_zeros w a) (trailing_zeros w b) → IsGcd a b (g * 2 ^ m % 2 ^ bits w)
IsGcd-from_odd w a b g m a-positive b-positive a-small b-small h m-is =
    let sa : SplitsTwos w a = splits_twos w a a-positive a-small in
    let sb : SplitsTwos w b = splits_twos w b b-positive b-small in
    let i : ℕ = trailing_zeros w a in
    let j : ℕ = trailing_zeros w b in
    let parts : IsGcd (2 ^ i * (a / 2 ^ i)) (2 ^ j * (b / 2 ^ j)) (2 ^ (min i j) * g) = IsGcd-twos i j (a / 2 ^ i) (b / 2 ^ j) g sa.odd sb.odd h in
    let whole : IsGcd a b (2 ^ (min i j) * g) = subst (λ n. IsGcd n b (2 ^ (min i j) * g)) sa.whole (subst (λ n. IsGcd (2 ^ i * (a / 2 ^ i)) n (2 ^ (min i j) * g)) sb.whole parts) in
    let e : g * 2 ^ m ≡ 2 ^ (min i j) * g = ap (λ n. g * 2 ^ n) m-is ∙ omega arith in
    let small : 2 ^ (min i j) * g ≤ a = le_of_dvd a-positive (whole.0) in
    let fits : g * 2 ^ m % 2 ^ bits w ≡ 2 ^ (min i j) * g = ap (λ n. n % 2 ^ bits w) e ∙ mod-eq_of_lt (omega arith) in
    subst (λ n. IsGcd a b n) (sym fits) whole

-- 1 has no other divisor
pub IsGcd-one : (a b : ℕ) → (a ≡ 1) ⊎ ((a ≡ 1 → ⊥) × (b ≡ 1)) → IsGcd a b 1
IsGcd-one a b (inl e) = (one-dvd a, one-dvd b, λ d da db. subst (λ n. d ∣ n) e da)
IsGcd-one a b (inr h) = (one-dvd a, one-dvd b, λ d da db. subst (λ n. d ∣ n) (h.1) db)
