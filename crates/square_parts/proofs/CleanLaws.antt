-- Divisors of clean numbers.
use Rattle.square_parts.proofs.Shared.{◌≡◌, ℕ, zero, suc, ◌*◌, ◌/◌, ◌^◌, ◌<◌, ◌≤◌, ◌⊎◌, inl, inr, sym, ap, ◌∙◌, subst, arith, ◌∣◌, dvd_trans, dvd-zero, mul-div_cancel', dvd-mul_right, dvd-mul_left}
use Rattle.square_parts.proofs.Shared.{mul-dvd-mul, left_of, IsClean, IsCoprime, IsCoprime-swap, IsCoprime-mul, other_factor, clean_positive}
use Rattle.square_parts.proofs.{SmoothNumbers.{common_or_coprime, IsSmooth-mul, IsRough-mul}, LeftOf.{IsRest, left_of_is, left_of_part}}

far_square : (d c : ℕ) → 10000 < d → d * d * c < 1000000000000 → c < 10000
far_square d c h k = grind arith

module _ (r : ℕ) (clean : IsClean r) (small : r < 10 ^ 12) where
  n : ℕ
  n = left_of r

  rest : IsRest r n
  unfolding n
  rest = left_of_is r (clean_positive r clean)

  -- a square that divides the rest without small divisors is that rest
  square_of_rest : (d k : ℕ) → 10000 < d → d * d * k ≡ n → ⊥
  unfolding n
  square_of_rest d zero far e = absurd (let h : 0 < left_of r = rest.positive in omega arith)
  square_of_rest d (suc zero) far e = clean.no_rest d (omega arith) (sym e ∙ omega arith)
  square_of_rest d (suc (suc k)) far e =
      let below : left_of r ≤ r = at_most (left_of r) rest.factor r rest.whole (clean_positive r clean) in
      let near : suc (suc k) < 10000 = far_square d (suc (suc k)) far (omega arith) in
      rest.rough.none (suc (suc k)) (omega arith) (omega arith) (subst (λ m. suc (suc k) ∣ m) e (dvd-mul_left (suc (suc k)) (d * d)))
    where
      at_most : (m j r : ℕ) → r ≡ m * j → 0 < r → m ≤ r
      at_most m zero r e h = absurd (omega arith)
      at_most m (suc j) r e h = omega arith

  far_divisor : (d : ℕ) → 10000 < d → d * d ∣ r → ⊥
  unfolding n
  far_divisor d far h = by (common_or_coprime d rest.factor factor-positive)
    where
      positive_factor : (m j : ℕ) → 0 < m * j → 0 < j
      positive_factor m zero h = absurd (omega arith)
      positive_factor m (suc j) h = omega arith

      factor-positive : 0 < rest.factor
      factor-positive = positive_factor (left_of r) rest.factor (rw (← rest.whole) (clean_positive r clean))

      by : ((g : ℕ) × (2 ≤ g) × (g ∣ d) × (g ∣ rest.factor)) ⊎ IsCoprime d rest.factor → ⊥
      by (inl (g, two, gd, gk)) =
          let (f, f-two, le, fg) = rest.smooth.within g two gk in
          let fd : f ∣ d = dvd_trans f fg gd in
          clean.no_square f f-two le (dvd_trans (f * f) (mul-dvd-mul f f fd fd) h)
      by (inr coprime) =
          let turned : IsCoprime rest.factor d = IsCoprime-swap d rest.factor coprime in
          let whole : d * d ∣ left_of r * rest.factor = subst (λ m. d * d ∣ m) rest.whole h in
          let divides : d * d ∣ left_of r = other_factor (d * d) rest.factor (left_of r) (IsCoprime-mul rest.factor d d turned turned) whole in
          square_of_rest d (left_of r / (d * d)) far (mul-div_cancel' (d * d) divides)

  pub clean_square_free : (d : ℕ) → 1 < d → d * d ∣ r → ⊥
  clean_square_free d h k = grind (arith, far_divisor)

-- what is left of g * a * a is the same of g, and that of a twice
left_of_square : (g a : ℕ) → 0 < g → 0 < a → left_of (g * a * a) ≡ left_of g * (left_of a * left_of a)
left_of_square g a g-positive a-positive =
    let p = left_of_is g g-positive in
    let q = left_of_is a a-positive in
    let k : ℕ = p.factor in
    let j : ℕ = q.factor in
    let whole : g * a * a ≡ (left_of g * (left_of a * left_of a)) * (k * (j * j)) = (λ i. p.whole i * q.whole i * q.whole i) ∙ moved (left_of g) k (left_of a) j in
    left_of_part (g * a * a) (left_of g * (left_of a * left_of a)) (k * (j * j)) (product_positive (g * a) a (product_positive g a g-positive a-positive) a-positive)
    (product_positive (left_of g) (left_of a * left_of a) p.positive (product_positive (left_of a) (left_of a) q.positive q.positive)) whole
    (IsSmooth-mul k (j * j) (factor_positive (left_of g) k (rw (← p.whole) g-positive)) p.smooth (IsSmooth-mul j j (factor_positive (left_of a) j (rw (← q.whole) a-positive)) q.smooth q.smooth))
    (IsRough-mul (left_of g) (left_of a * left_of a) p.positive p.rough (IsRough-mul (left_of a) (left_of a) q.positive q.rough q.rough))
  where
    moved : (n k m j : ℕ) → (n * k) * (m * j) * (m * j) ≡ (n * (m * m)) * (k * (j * j))
    moved n k m j = omega arith

    product_positive : (x y : ℕ) → 0 < x → 0 < y → 0 < x * y
    product_positive x y h k = grind arith

    factor_positive : (m j : ℕ) → 0 < m * j → 0 < j
    factor_positive m zero h = absurd (omega arith)
    factor_positive m (suc j) h = omega arith

-- what is left of a clean number without the square of a is clean
pub clean_part : (g a : ℕ) → IsClean (g * a * a) → IsClean g
clean_part g a clean = by g a (clean_positive (g * a * a) clean) clean
  where
    square_root_positive : (u m : ℕ) → 1 < u → 0 < m → 1 < u * m
    square_root_positive u m h k = grind arith

    zero_left : (a : ℕ) → zero * a * a ≡ 0
    zero_left a = omega arith

    by : (g a : ℕ) → 0 < g * a * a → IsClean (g * a * a) → IsClean g
    by zero a positive clean = absurd (omega (arith, zero_left a))
    by (suc g) zero positive clean = absurd (omega arith)
    by (suc g) (suc a) positive clean = record {
      no_square = λ d two le h. clean.no_square d two le (dvd_trans (d * d) (dvd_trans (d * d) h (dvd-mul_right (suc g) (suc a))) (dvd-mul_right (suc g * suc a) (suc a)));
      no_rest = λ u above e.
          let m : ℕ = left_of (suc a) in
          let big : 1 < u * m = square_root_positive u m above (left_of_is (suc a) (omega arith)).positive in
          clean.no_rest (u * m) big (left_of_square (suc g) (suc a) (omega arith) (omega arith) ∙ ap (λ n. n * (m * m)) e ∙ omega arith);
    }
