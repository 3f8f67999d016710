-- The sum of two fractions over the greatest common divisor of their denominators.
use Rattle.rational128.proofs.Shared.{◌≡◌, ℕ, ◌*◌, ◌/◌, ◌<◌, ◌^◌, ℤ, pos, ◌+ℤ◌, ◌*ℤ◌, Bool, true, false, ◌&&◌, refl, sym, ap, ◌∙◌, subst, arith, nat_abs, IsGcd, ◌∣◌, ints, unsigned_abs-mul, dvd_refl}
use Rattle.rational128.proofs.Shared.{dvd_trans, same_from_IsGcd, mul-div_cancel', dvd-mul_left, pos_of_dvd_of_pos, gcd_is, parts, diffs, eq_diff, combine, Fraction, plus, lowest, over, over_back}
use Rattle.rational128.proofs.{Shared.{over_abs, den_pos, mul_pos, fits, sum_fits, positive_factor}, Coprime.{IsCoprime, IsGcd-from_coprime, IsCoprime-swap, IsCoprime-divisors, other_factor}}
use Rattle.rational128.proofs.{Coprime.{IsCoprime-mul, quotients_coprime, dvd-difference, factor_divides}, FitTests.{fits_yes, fits_no}, LowestTerms.{HasParts, parts_by_cross, fraction_coprime}}

-- p*s + r*q has no divisor in common with q, where p and s have none
sum_coprime : (p r : ℤ) (q s : ℕ) → IsCoprime (nat_abs p) q → IsCoprime s q → IsCoprime (nat_abs (p *ℤ pos s +ℤ r *ℤ pos q)) q
sum_coprime p r q s h k = record { common = common }
  where
    common : (d : ℕ) → d ∣ nat_abs (p *ℤ pos s +ℤ r *ℤ pos q) → d ∣ q → d ∣ 1
    common d dz dq =
        let right : d ∣ nat_abs (r *ℤ pos q) = subst (λ n. d ∣ n) (sym (unsigned_abs-mul r (pos q))) (dvd_trans d dq (dvd-mul_left q (nat_abs r))) in
        let left : d ∣ nat_abs p * s = subst (λ n. d ∣ n) (unsigned_abs-mul p (pos s)) (dvd-difference d (p *ℤ pos s) (r *ℤ pos q) dz right) in
        h.common d (other_factor d s (nat_abs p) (IsCoprime-divisors s q s d (dvd_refl s) dq k) left) dq

pub same_factor : (h a b : ℕ) → 0 < h → h * a ≡ h * b → a ≡ b
same_factor h a b positive e = grind arith

-- w*h = p*s + r*q makes w/(k*q*s) the sum of p/(h*k*q) and r/(h*k*s)
cross : (w p r : ℤ) (q s h k : ℕ) → w *ℤ pos h ≡ p *ℤ pos s +ℤ r *ℤ pos q
    → w *ℤ pos (((h * k) * q) * ((h * k) * s)) ≡ (p *ℤ pos ((h * k) * s) +ℤ r *ℤ pos ((h * k) * q)) *ℤ pos ((k * q) * s)
cross w p r q s h k e = combine _ _ (pos (h * k * k * q * s)) _ _ (rw (parts w, parts p, parts r) (simp diffs (eq_diff _ _ _ _ (omega arith)))) e

-- The sum of p/q and r/s: g is the greatest common divisor of q and s, and h that of the numerator and g.
module _ (p r : ℤ) (q s g h : ℕ) (q-positive : 0 < q) (s-positive : 0 < s) (p-lowest : IsCoprime (nat_abs p) q) (r-lowest : IsCoprime (nat_abs r) s) (shared : IsGcd q s g) (divisor : IsGcd (nat_abs (p *ℤ pos (s / g) +ℤ r *ℤ pos (q / g))) g h) where
  abbrev num : ℤ
  num = p *ℤ pos (s / g) +ℤ r *ℤ pos (q / g)

  g-positive : 0 < g
  g-positive = pos_of_dvd_of_pos (shared.0) q-positive

  h-positive : 0 < h
  h-positive = pos_of_dvd_of_pos (divisor.1) g-positive

  q-whole : g * (q / g) ≡ q
  q-whole = mul-div_cancel' g (shared.0)

  s-whole : g * (s / g) ≡ s
  s-whole = mul-div_cancel' g (shared.1)

  g-whole : h * (g / h) ≡ g
  g-whole = mul-div_cancel' h (divisor.1)

  quotients : IsCoprime (q / g) (s / g)
  quotients = quotients_coprime q s g s-positive shared

  with_first : IsCoprime (nat_abs num) (q / g)
  with_first = sum_coprime p r (q / g) (s / g) (IsCoprime-divisors _ _ _ _ (dvd_refl (nat_abs p)) (factor_divides g (q / g) q q-whole) p-lowest) (IsCoprime-swap _ _ quotients)

  with_second : IsCoprime (nat_abs num) (s / g)
  with_second =
      let turned : r *ℤ pos (q / g) +ℤ p *ℤ pos (s / g) ≡ p *ℤ pos (s / g) +ℤ r *ℤ pos (q / g) = omega (arith, ints) in
      subst (λ z. IsCoprime (nat_abs z) (s / g)) turned
      (sum_coprime r p (s / g) (q / g) (IsCoprime-divisors _ _ _ _ (dvd_refl (nat_abs r)) (factor_divides g (s / g) s s-whole) r-lowest) quotients)

  num-whole : over num h *ℤ pos h ≡ num
  num-whole = over_back num h (divisor.0)

  q-over : q / h ≡ (g / h) * (q / g)
  q-over =
      let whole : h * (q / h) ≡ q = mul-div_cancel' h (dvd_trans h (divisor.1) (shared.0)) in
      same_factor h _ _ h-positive (whole ∙ sym q-whole ∙ ap (λ n. n * (q / g)) (sym g-whole) ∙ omega arith)

  below : nat_abs (over num h) ∣ nat_abs num
  below = subst (λ n. n ∣ nat_abs num) (sym (over_abs num h)) (factor_divides h (nat_abs num / h) (nat_abs num) (mul-div_cancel' h num-divided))
    where
      num-divided : h ∣ nat_abs num
      num-divided = divisor.0

  sum_den_positive : 0 < (q / h) * (s / g)
  sum_den_positive = mul_pos _ _
      (positive_factor h (q / h) q (mul-div_cancel' h (dvd_trans h (divisor.1) (shared.0))) q-positive)
      (positive_factor g (s / g) s s-whole s-positive)

  lowest_in : IsCoprime (nat_abs (over num h)) ((q / h) * (s / g))
  lowest_in = rw q-over (IsCoprime-mul _ _ _ (IsCoprime-mul _ _ _ with_rest (smaller with_first)) (smaller with_second))
    where
      with_rest : IsCoprime (nat_abs (over num h)) (g / h)
      with_rest = subst (λ n. IsCoprime n (g / h)) (sym (over_abs num h)) (quotients_coprime (nat_abs num) g h g-positive divisor)

      smaller : {m : ℕ} → IsCoprime (nat_abs num) m → IsCoprime (nat_abs (over num h)) m
      smaller {m} k = IsCoprime-divisors _ _ _ _ below (dvd_refl m) k

  sum_lowest : IsGcd (nat_abs (over (p *ℤ pos (s / g) +ℤ r *ℤ pos (q / g)) h)) ((q / h) * (s / g)) 1
  sum_lowest = IsGcd-from_coprime _ _ lowest_in

  cross_in : over num h *ℤ pos (q * s) ≡ (p *ℤ pos s +ℤ r *ℤ pos q) *ℤ pos ((q / h) * (s / g))
  cross_in = grind (arith, g-whole, q-whole, s-whole, cross, q-over, num-whole)

  -- the sum in lowest terms
  sum_parts : HasParts (lowest (p *ℤ pos s +ℤ r *ℤ pos q) (q * s)) (over (p *ℤ pos (s / g) +ℤ r *ℤ pos (q / g)) h) ((q / h) * (s / g))
  sum_parts = parts_by_cross _ _ _ _ sum_den_positive sum_lowest (mul_pos q s q-positive s-positive) cross_in

-- the numbers of two fractions, and the greatest common divisor of their denominators
pub record Operands (a b : Fraction) (p : ℤ) (q : ℕ) (r : ℤ) (s g : ℕ) : Type 0 where
  pub p_is : p ≡ a.num
  pub q_is : q ≡ a.den
  pub r_is : r ≡ b.num
  pub s_is : s ≡ b.den
  pub shared : IsGcd q s g

module _ (a b : Fraction) (p : ℤ) (q : ℕ) (r : ℤ) (s g : ℕ) (o : Operands a b p q r s g) where
  shared_of : IsGcd a.den b.den g
  shared_of = subst (λ n. IsGcd n b.den g) o.q_is (subst (λ n. IsGcd q n g) o.s_is o.shared)

  sum_fits_of : sum_fits a b ≡ (fits (a.num *ℤ pos (b.den / g)) && fits (b.num *ℤ pos (a.den / g)) && fits (a.num *ℤ pos (b.den / g) +ℤ b.num *ℤ pos (a.den / g)) && fits (pos (plus a b).den))
  sum_fits_of = ap (λ n. fits (a.num *ℤ pos (b.den / n)) && fits (b.num *ℤ pos (a.den / n)) && fits (a.num *ℤ pos (b.den / n) +ℤ b.num *ℤ pos (a.den / n)) && fits (pos (plus a b).den)) (same_from_IsGcd _ _ _ _ (gcd_is a.den b.den) shared_of)

  sum_fits_is : sum_fits a b ≡ (fits (p *ℤ pos (s / g)) && fits (r *ℤ pos (q / g)) && fits (p *ℤ pos (s / g) +ℤ r *ℤ pos (q / g)) && fits (pos (plus a b).den))
  sum_fits_is = rw (o.p_is, o.q_is, o.r_is, o.s_is) sum_fits_of

  abbrev first : ℤ
  first = p *ℤ pos (s / g)

  abbrev second : ℤ
  second = r *ℤ pos (q / g)

  abbrev den : ℤ
  den = pos (plus a b).den

  pub unfit_first : ¬ (nat_abs p * (s / g) < 2 ^ 127) → sum_fits a b ≡ false
  unfit_first h = grind (arith, sum_fits_is, fits_no, unsigned_abs-mul)

  pub unfit_second : ¬ (nat_abs r * (q / g) < 2 ^ 127) → sum_fits a b ≡ false
  unfit_second h = grind (arith, sum_fits_is, fits_no, unsigned_abs-mul)

  pub unfit_sum : ¬ (nat_abs (p *ℤ pos (s / g) +ℤ r *ℤ pos (q / g)) < 2 ^ 127) → sum_fits a b ≡ false
  unfit_sum h = grind (arith, sum_fits_is, fits_no)

  -- the numbers of the sum in lowest terms, where h is the greatest common divisor of its numerator and g
  module _ (h : ℕ) (divisor : IsGcd (nat_abs (p *ℤ pos (s / g) +ℤ r *ℤ pos (q / g))) g h) where
    q-positive : 0 < q
    q-positive = rw o.q_is (den_pos a)

    s-positive : 0 < s
    s-positive = rw o.s_is (den_pos b)

    p-lowest : IsCoprime (nat_abs p) q
    p-lowest = rw (o.p_is, o.q_is) (fraction_coprime a)

    r-lowest : IsCoprime (nat_abs r) s
    r-lowest = rw (o.r_is, o.s_is) (fraction_coprime b)

    plus_parts : HasParts (plus a b) (over (p *ℤ pos (s / g) +ℤ r *ℤ pos (q / g)) h) ((q / h) * (s / g))
    unfolding plus
    plus_parts =
        let e : lowest (p *ℤ pos s +ℤ r *ℤ pos q) (q * s) ≡ plus a b = rw (o.p_is, o.q_is, o.r_is, o.s_is) refl in
        subst (λ f. HasParts f (over (p *ℤ pos (s / g) +ℤ r *ℤ pos (q / g)) h) ((q / h) * (s / g))) e
        (sum_parts p r q s g h q-positive s-positive p-lowest r-lowest o.shared divisor)

    plus_lowest : IsGcd (nat_abs (over (p *ℤ pos (s / g) +ℤ r *ℤ pos (q / g)) h)) ((q / h) * (s / g)) 1
    plus_lowest = sum_lowest p r q s g h q-positive s-positive p-lowest r-lowest o.shared divisor

    plus_den_positive : 0 < (q / h) * (s / g)
    plus_den_positive = sum_den_positive p r q s g h q-positive s-positive p-lowest r-lowest o.shared divisor

    unfit_den : ¬ ((q / h) * (s / g) < 2 ^ 127) → sum_fits a b ≡ false
    unfit_den k = sum_fits_is ∙ fourth_false (fits first) (fits second) (fits (first +ℤ second)) (fits den) (fits_no den _ (plus_parts.den) k)
      where
        fourth_false : (x y z w : Bool) → w ≡ false → (x && y && z && w) ≡ false
        fourth_false false y z w e = refl
        fourth_false true false z w e = refl
        fourth_false true true false w e = refl
        fourth_false true true true w e = e

    fit : nat_abs p * (s / g) < 2 ^ 127 → nat_abs r * (q / g) < 2 ^ 127 → nat_abs (p *ℤ pos (s / g) +ℤ r *ℤ pos (q / g)) < 2 ^ 127 → (q / h) * (s / g) < 2 ^ 127 → sum_fits a b ≡ true
    fit f k l m =
        sum_fits_is
        ∙ all_true (fits first) (fits second) (fits (first +ℤ second)) (fits den) (fits_yes first (rw (unsigned_abs-mul p (pos (s / g))) f)) (fits_yes second (rw (unsigned_abs-mul r (pos (q / g))) k)) (fits_yes (first +ℤ second) l) (fits_yes den (rw plus_parts.den m))
      where
        all_true : (x y z w : Bool) → x ≡ true → y ≡ true → z ≡ true → w ≡ true → (x && y && z && w) ≡ true
        all_true x y z w a b c d = rw (a, b, c, d) refl

-- what the last steps of a sum need: z is the numerator, and h its greatest common divisor with g
pub record Reduces (a b : Fraction) (q s g h : ℕ) (z : ℤ) : Type 0 where
  pub divisor_positive : 0 < h
  pub lowest : IsGcd (nat_abs (over z h)) ((q / h) * (s / g)) 1
  pub den_positive : 0 < (q / h) * (s / g)
  pub parts : HasParts (plus a b) (over z h) ((q / h) * (s / g))
  pub refused : ¬ ((q / h) * (s / g) < 2 ^ 127) → sum_fits a b ≡ false
  pub accepted : (q / h) * (s / g) < 2 ^ 127 → sum_fits a b ≡ true

pub shared_positive : {a b : Fraction} {p r : ℤ} {q s g : ℕ} → Operands a b p q r s g → 0 < g
shared_positive {a} {b} {p} {r} {q} {s} {g} o = pos_of_dvd_of_pos (o.shared.0) (let h : 0 < q = rw o.q_is (den_pos a) in h)

pub reduces : (a b : Fraction) (p r z : ℤ) (q s g h : ℕ) → Operands a b p q r s g → z ≡ p *ℤ pos (s / g) +ℤ r *ℤ pos (q / g)
    → nat_abs p * (s / g) < 2 ^ 127 → nat_abs r * (q / g) < 2 ^ 127 → nat_abs z < 2 ^ 127 → IsGcd (nat_abs z) g h → Reduces a b q s g h z
reduces a b p r z q s g h o z-is first second third divisor =
    let sum : ℤ = p *ℤ pos (s / g) +ℤ r *ℤ pos (q / g) in
    let d : IsGcd (nat_abs sum) g h = subst (λ x. IsGcd (nat_abs x) g h) z-is divisor in
    let t : nat_abs sum < 2 ^ 127 = subst (λ x. nat_abs x < 2 ^ 127) z-is third in
    let whole : Reduces a b q s g h sum = record {
      divisor_positive = pos_of_dvd_of_pos (d.1) (shared_positive o);
      lowest = plus_lowest a b p q r s g o h d;
      den_positive = plus_den_positive a b p q r s g o h d;
      parts = plus_parts a b p q r s g o h d;
      refused = unfit_den a b p q r s g o h d;
      accepted = fit a b p q r s g o h d first second t;
    } in
    subst (λ x. Reduces a b q s g h x) (sym z-is) whole
