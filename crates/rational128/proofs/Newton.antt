-- Newton's method for the integer square root.
use Rattle.rational128.proofs.Shared.{◌≡◌, ℕ, ◌+◌, ◌-◌, ◌*◌, ◌/◌, ◌%◌, ◌^◌, ◌<◌, ◌≤◌, ◌⊎◌, inl, inr, arith, count_leading_zeros, leading_length}
use Rattle.rational128.proofs.Shared.{pow-add, div_below, mod_below, mul-le, one_shl, pow_pos, pow-le-pow_right}

-- four times a product is at most the square of the sum
four_products : (a b : ℕ) → 4 * (a * b) ≤ (a + b) * (a + b)
four_products a b = by (order a b)
  where
    order : (a b : ℕ) → (a ≤ b) ⊎ (b ≤ a)
    order a b = grind arith

    grows : (a d : ℕ) → 4 * (a * (a + d)) ≤ (a + (a + d)) * (a + (a + d))
    grows a d = omega arith

    by : (a ≤ b) ⊎ (b ≤ a) → 4 * (a * b) ≤ (a + b) * (a + b)
    by (inl le) =
        let e : b ≡ a + (b - a) = omega arith in
        rw e (grows a (b - a))
    by (inr le) =
        let e : a ≡ b + (a - b) = omega arith in
        let h : 4 * (b * (b + (a - b))) ≤ (b + (b + (a - b))) * (b + (b + (a - b))) = grows b (a - b) in
        let k : 4 * (b * a) ≤ (b + a) * (b + a) = rw (← e) at h in
        omega arith

-- the mean of a divisor and the quotient is no less than the root
pub mean_above : (n x : ℕ) → 0 < x → n < ((x + n / x) / 2 + 1) * ((x + n / x) / 2 + 1)
mean_above n x positive = scaled ((x + n / x) / 2 + 1) (n / x) (omega arith) (omega (arith, mod_below n x positive))
  where
    scaled : (m q : ℕ) → x + (q + 1) ≤ 2 * m → n < x * (q + 1) → n < m * m
    scaled m q h small = omega (arith, four_products x (q + 1), mul-le (x + (q + 1)) (x + (q + 1)) (2 * m) (2 * m) h h)

-- the quotient by a number above the root is hardly greater than that number
pub quotient_bound : (n x : ℕ) → 0 < x → n < (x + 1) * (x + 1) → n / x < x + 3
quotient_bound n x positive above = div_below n x (x + 3) positive (omega arith)

pub mean_positive : (n x : ℕ) → 0 < x → 0 < n → n < (x + 1) * (x + 1) → 0 < (x + n / x) / 2
mean_positive n x h k l = grind arith

-- x is above the root of n, or the root itself, and at most the bound
pub record IsUpper (n x bound : ℕ) : Type 0 where
  pub positive : 0 < x
  pub above : n < (x + 1) * (x + 1)
  pub small : x ≤ bound

-- the power of two that Newton's method begins with, in w bits
pub starts : (w h n : ℕ) → w ≡ h + h → 0 < h → n < 2 ^ w → IsUpper n (1 * 2 ^ ((w + 1 - count_leading_zeros w n) / 2) % 2 ^ w) (2 ^ h)
starts w h n halves h-positive small =
    let (m, whole, below, near) = leading_length w n small in
    let k : ℕ = (w + 1 - count_leading_zeros w n) / 2 in
    let double : m ≤ k + k = omega arith in
    let half : k ≤ h = omega arith in
    let square : 2 ^ (k + k) ≡ 2 ^ k * 2 ^ k = pow-add 2 k k in
    let two : 0 < 2 = omega arith in
    let wide : 2 ^ m ≤ 2 ^ (k + k) = pow-le-pow_right two double in
    let e : 1 * 2 ^ k % 2 ^ w ≡ 2 ^ k = one_shl k w (omega arith) in
    let upper : IsUpper n (2 ^ k) (2 ^ h) = record { positive = pow_pos k; above = omega arith; small = pow-le-pow_right two half } in
    rw e upper

-- a step of Newton's method from above the root
pub steps : (n x bound : ℕ) → 0 < n → IsUpper n x bound → (x + n / x) / 2 < x → IsUpper n ((x + n / x) / 2) bound
steps n x bound positive u less = record { positive = mean_positive n x u.positive positive u.above; above = mean_above n x u.positive; small = omega (arith, u.small) }
