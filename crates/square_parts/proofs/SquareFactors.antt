-- When a product is a square.
use Rattle.square_parts.proofs.Shared.{same_factor, ◌≡◌, ℕ, zero, suc, ◌*◌, ◌/◌, ◌<◌, true, sym, ap, ◌∙◌, subst, arith, IsGcd, ◌∣◌, dvd_refl, dvd_antisymm, IsGcd-swap, mul-div_cancel', dvd-mul_right}
use Rattle.square_parts.proofs.Shared.{dvd-mul_left, pos_of_dvd_of_pos, gcd, gcd_is, are_alike, square_root, square_from_scaled, alike_from, alike_true, alike_sym, IsCoprime, IsCoprime-swap}
use Rattle.square_parts.proofs.Shared.{IsCoprime-divisors, IsCoprime-mul, other_factor, quotients_coprime}

-- factors without a common divisor, whose product is a square, are squares
pub coprime_square : (x y t : ℕ) → 0 < x → IsCoprime x y → x * y ≡ t * t → (u : ℕ) × (x ≡ u * u)
coprime_square x y t positive apart e = (u, sym x-whole ∙ ap (λ n. u * n) same)
  where
    u : ℕ
    u = gcd x t

    is : IsGcd x t u
    is = gcd_is x t

    u-positive : 0 < u
    u-positive = pos_of_dvd_of_pos (is.0) positive

    x-whole : u * (x / u) ≡ x
    x-whole = mul-div_cancel' u (is.0)

    t-whole : u * (t / u) ≡ t
    t-whole = mul-div_cancel' u (is.1)

    x-divides : x / u ∣ x
    x-divides = subst (λ n. x / u ∣ n) x-whole (dvd-mul_left (x / u) u)

    quotients : IsCoprime (x / u) (t / u)
    quotients = IsCoprime-swap _ _ (quotients_coprime t x u positive (IsGcd-swap x t u is))

    reduced : (x / u) * y ≡ u * ((t / u) * (t / u))
    reduced = same_factor u _ _ u-positive (omega (arith, ap (λ n. n * y) x-whole, e, ap (λ n. n * n) t-whole))

    forward : x / u ∣ u
    forward = other_factor (x / u) ((t / u) * (t / u)) u (IsCoprime-swap _ _ (IsCoprime-mul _ _ _ quotients quotients)) (subst (λ n. x / u ∣ n) reduced (dvd-mul_right (x / u) y))

    back : u ∣ x / u
    back = other_factor u y (x / u) (IsCoprime-swap _ _ (IsCoprime-divisors x y u y (is.0) (dvd_refl y) apart)) (subst (λ n. u ∣ n) (sym reduced) (dvd-mul_right u ((t / u) * (t / u))))

    same : x / u ≡ u
    same = dvd_antisymm forward back

-- r and s over their greatest common divisor g
module _ (r s g : ℕ) (r-positive : 0 < r) (s-positive : 0 < s) (is : IsGcd r s g) where
  pub divisor_positive : 0 < g
  divisor_positive = pos_of_dvd_of_pos (is.0) r-positive

  r-whole : g * (r / g) ≡ r
  r-whole = mul-div_cancel' g (is.0)

  s-whole : g * (s / g) ≡ s
  s-whole = mul-div_cancel' g (is.1)

  positive_quotient : (n k : ℕ) → g * k ≡ n → 0 < n → 0 < k
  positive_quotient n k e h = grind arith

  -- where r and s are alike, r / g is a square
  pub first_square : are_alike r s ≡ true → (u : ℕ) × (r / g ≡ u * u)
  first_square h =
      let t : ℕ = square_root (r * s) in
      let root : t * t ≡ r * s = (alike_from r s h).square in
      let wholes : (g * (r / g)) * (g * (s / g)) ≡ r * s = (λ i. r-whole i * s-whole i) in
      let scaled : ((r / g) * (s / g)) * (g * g) ≡ t * t = omega (arith, root, wholes) in
      let (v, e) = square_from_scaled ((r / g) * (s / g)) g t divisor_positive scaled in
      coprime_square (r / g) (s / g) v (positive_quotient r (r / g) r-whole r-positive) (quotients_coprime r s g s-positive is) e

  -- where both quotients are squares, r and s are alike
  pub alike_roots : (a b : ℕ) → a * a ≡ r / g → b * b ≡ s / g → are_alike r s ≡ true
  alike_roots a b e f =
      let wholes : (g * (r / g)) * (g * (s / g)) ≡ r * s = (λ i. r-whole i * s-whole i) in
      let roots : (g * (a * a)) * (g * (b * b)) ≡ (g * (r / g)) * (g * (s / g)) = (λ i. (g * e i) * (g * f i)) in
      let square : (g * (a * b)) * (g * (a * b)) ≡ r * s = omega (arith, roots, wholes) in
      alike_true r s (g * (a * b)) (record { square = square; positive = root_positive (g * (a * b)) (r * s) square (product_positive r s r-positive s-positive) })
    where
      root_positive : (t n : ℕ) → t * t ≡ n → 0 < n → 0 < t
      root_positive zero n e h = absurd (omega arith)
      root_positive (suc t) n e h = omega arith

      product_positive : (r s : ℕ) → 0 < r → 0 < s → 0 < r * s
      product_positive r s h k = grind arith

  pub first_part : (a : ℕ) → a * a ≡ r / g → r ≡ g * a * a
  first_part a e = sym r-whole ∙ ap (λ n. g * n) (sym e) ∙ omega arith

  pub second_part : (b : ℕ) → b * b ≡ s / g → s ≡ g * b * b
  second_part b f = sym s-whole ∙ ap (λ n. g * n) (sym f) ∙ omega arith

-- being alike does not depend on the order
pub alike_turned : (r s : ℕ) → are_alike r s ≡ true → are_alike s r ≡ true
alike_turned r s h = alike_true s r _ (alike_sym r s _ (alike_from r s h))
