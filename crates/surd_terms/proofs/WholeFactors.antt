-- A whole number cancelled against the denominators of two fractions.
use Rattle.surd_terms.proofs.Shared.{◌≡◌, true, ℕ, zero, suc, ◌*◌, ◌/◌, ◌<◌, ◌≤◌, ℤ, pos, ◌*ℤ◌, Bool, Option, Some, None, sym, ap, ◌∙◌, subst, arith, nat_abs, if◌then◌else◌, IsGcd, unsigned_abs-mul}
use Rattle.surd_terms.proofs.Shared.{dvd_refl, dvd_trans, mul-div_cancel', mul-div_cancel_left, dvd-mul_right, dvd-mul_left, mul-dvd-mul, pos_of_dvd_of_pos, times_comm, times_assoc, fraction_fits}
use Rattle.surd_terms.proofs.Shared.{Fraction, lowest, times, whole_fraction, times_lowest, lowest_parts, den_pos, same_lowest, is_lowest, mul_pos, gcd, gcd_is, parts, diffs, eq_diff, IsCoprime}
use Rattle.surd_terms.proofs.Shared.{IsCoprime-swap, IsGcd-from_coprime, IsCoprime-divisors, IsCoprime-mul, quotients_coprime, factor_divides, positive_factor, HasParts, parts_by_cross}
use Rattle.surd_terms.proofs.Shared.{parts_themselves, fraction_coprime, is_lowest_from, Mul, Calculation, calculation, first_misfit, IsCancelled, cancelled_calculations, IsCancelledMisfit, ◌∣◌}
use Rattle.surd_terms.proofs.{Shared.{div-mul_cancel, mul-one}, Rationals.{whole_times}}

-- ---- times a whole number

-- a fraction times a whole number that divides its denominator
pub multiple_is : (q : Fraction) (n : ℕ) → 1 ≤ n → n ∣ q.den → lowest q.num (q.den / n) ≡ times q (whole_fraction (pos n))
multiple_is q n h d =
    same_lowest q.num (q.num *ℤ pos n) (q.den / n) (q.den * 1) (positive_factor n (q.den / n) q.den (mul-div_cancel' n d) (den_pos q)) (mul_pos q.den 1 (den_pos q) (omega arith)) (cross q.num (q.den / n) q.den n (mul-div_cancel' n d))
    ∙ sym (times_lowest q.num (pos n) q.den 1 (den_pos q) (omega arith))
    ∙ ap (λ x. times x (whole_fraction (pos n))) (sym (lowest_parts q))
  where
    cross : (p : ℤ) (k m n : ℕ) → n * k ≡ m → p *ℤ pos (m * 1) ≡ (p *ℤ pos n) *ℤ pos k
    cross p k m n e = rw (← e, parts p) (simp diffs (eq_diff _ _ _ _ (omega arith)))

pub multiple_coprime : (q : Fraction) (n : ℕ) → n ∣ q.den → IsGcd (nat_abs q.num) (q.den / n) 1
multiple_coprime q n d =
    (IsGcd-from_coprime _ _ (IsCoprime-divisors (nat_abs q.num) q.den (nat_abs q.num) (q.den / n) (dvd_refl (nat_abs q.num)) (factor_divides n (q.den / n) q.den (mul-div_cancel' n d)) (fraction_coprime q)))

-- it is in lowest terms
pub multiple_lowest : (q : Fraction) (n : ℕ) → 1 ≤ n → n ∣ q.den → is_lowest q.num (q.den / n) ≡ true
multiple_lowest q n h d =
    is_lowest_from q.num (q.den / n) (positive_factor n (q.den / n) q.den (mul-div_cancel' n d) (den_pos q)) (multiple_coprime q n d)

pub multiple_parts : (q : Fraction) (n : ℕ) → 1 ≤ n → n ∣ q.den → HasParts (times q (whole_fraction (pos n))) q.num (q.den / n)
multiple_parts q n h d = subst (λ f. HasParts f q.num (q.den / n)) (multiple_is q n h d) (parts_themselves q.num (q.den / n) (multiple_lowest q n h d))

-- the denominator of a quotient divides that which it is made of
den_divides : (p : ℤ) (q : ℕ) → 0 < q → (lowest p q).den ∣ q
unfolding lowest
den_divides p zero h = absurd (omega arith)
den_divides p (suc q) h = subst (λ n. suc q / g ∣ n) (div-mul_cancel g (gcd_is (nat_abs p) (suc q)).1) (dvd-mul_right (suc q / g) g)
  where
    g : ℕ
    g = gcd (nat_abs p) (suc q)

product_den : (a b : Fraction) → (times a b).den ∣ a.den * b.den
unfolding times
product_den a b = den_divides (a.num *ℤ b.num) (a.den * b.den) (mul_pos _ _ (den_pos a) (den_pos b))

-- the numerator and the denominator of the product with a whole number that shares nothing with the denominator
whole_product_parts : (q : Fraction) (n : ℕ) → IsCoprime n q.den → HasParts (times q (whole_fraction (pos n))) (q.num *ℤ pos n) q.den
whole_product_parts q n h =
    subst (λ f. HasParts f (q.num *ℤ pos n) q.den) (sym made)
    (parts_by_cross (q.num *ℤ pos n) q.den (q.num *ℤ pos n) (q.den * 1) (den_pos q) lowest_terms (mul_pos q.den 1 (den_pos q) (omega arith)) (ap (λ m. (q.num *ℤ pos n) *ℤ pos m) (mul-one q.den)))
  where
    made : times q (whole_fraction (pos n)) ≡ lowest (q.num *ℤ pos n) (q.den * 1)
    made = ap (λ x. times x (whole_fraction (pos n))) (lowest_parts q) ∙ times_lowest q.num (pos n) q.den 1 (den_pos q) (omega arith)

    lowest_terms : IsGcd (nat_abs (q.num *ℤ pos n)) q.den 1
    lowest_terms =
        IsGcd-from_coprime _ _
        (IsCoprime-swap _ _ (subst (λ m. IsCoprime q.den m) (sym (unsigned_abs-mul q.num (pos n))) (IsCoprime-mul q.den (nat_abs q.num) n (IsCoprime-swap _ _ (fraction_coprime q)) (IsCoprime-swap _ _ h))))

below_part : (m n b : ℕ) → 1 ≤ n → m * n < b → m < b
below_part m n b h k = grind arith

-- a fraction fits where its product with such a number does
part_fits : (q : Fraction) (n : ℕ) → 1 ≤ n → IsCoprime n q.den → fraction_fits (times q (whole_fraction (pos n))) ≡ true → fraction_fits q ≡ true
part_fits q n h k l = grind (arith, whole_product_parts, unsigned_abs-mul, below_part)

-- ---- a whole number that is cancelled

module _ (c d : Fraction) (n first second rest : ℕ) (h : 1 ≤ n) (is : IsCancelled n c d first second rest) where
  abbrev pub x : Fraction
  x = times c (whole_fraction (pos first))

  abbrev pub y : Fraction
  y = times d (whole_fraction (pos second))

  pub first_positive : 1 ≤ first
  first_positive = pos_of_dvd_of_pos is.with_first.1 (den_pos c)

  pub second_positive : 1 ≤ second
  second_positive = pos_of_dvd_of_pos is.with_second.1 (den_pos d)

  pub rest_positive : 1 ≤ rest
  rest_positive = grind arith

  left_is : n / first ≡ second * rest
  left_is = ap (λ m. m / first) (is.whole ∙ regrouped) ∙ mul-div_cancel_left (second * rest) first_positive
    where
      regrouped : first * second * rest ≡ first * (second * rest)
      regrouped = omega arith

  with_first : IsCoprime rest (c.den / first)
  with_first =
      let apart : IsCoprime (n / first) (c.den / first) = quotients_coprime n c.den first (den_pos c) is.with_first in
      IsCoprime-divisors (n / first) (c.den / first) rest (c.den / first) (subst (λ m. rest ∣ m) (sym left_is) (dvd-mul_left rest second)) (dvd_refl (c.den / first)) apart

  with_second : IsCoprime rest (d.den / second)
  with_second = subst (λ m. IsCoprime m (d.den / second)) (mul-div_cancel_left rest second_positive) (quotients_coprime (second * rest) d.den second (den_pos d) is.with_second)

  apart : IsCoprime rest (times x y).den
  apart =
      let x-den : x.den ∣ c.den / first = subst (λ (q : Fraction). q.den ∣ c.den / first) (multiple_is c first first_positive is.with_first.1) (den_divides c.num (c.den / first) (positive_factor first (c.den / first) c.den (mul-div_cancel' first is.with_first.1) (den_pos c))) in
      let y-den : y.den ∣ d.den / second = subst (λ (q : Fraction). q.den ∣ d.den / second) (multiple_is d second second_positive is.with_second.1) (den_divides d.num (d.den / second) (positive_factor second (d.den / second) d.den (mul-div_cancel' second is.with_second.1) (den_pos d))) in
      IsCoprime-divisors rest ((c.den / first) * (d.den / second)) rest (times x y).den (dvd_refl rest) (dvd_trans (times x y).den (product_den x y) (mul-dvd-mul x.den y.den x-den y-den))
      (IsCoprime-mul rest (c.den / first) (d.den / second) with_first with_second)

  -- the product of what is made is the whole
  pub cancelled_product : times (times x y) (whole_fraction (pos rest)) ≡ times (times c d) (whole_fraction (pos n))
  cancelled_product =
      ap (λ q. times q (whole_fraction (pos rest))) (exchanged c (whole_fraction (pos first)) d (whole_fraction (pos second)))
      ∙ times_assoc (times c d) (times (whole_fraction (pos first)) (whole_fraction (pos second))) (whole_fraction (pos rest))
      ∙ ap (times (times c d)) (ap (λ q. times q (whole_fraction (pos rest))) (whole_times first second) ∙ whole_times (first * second) rest ∙ ap (λ m. whole_fraction (pos m)) (sym is.whole))
    where
      exchanged : (a b e f : Fraction) → times (times a b) (times e f) ≡ times (times a e) (times b f)
      exchanged a b e f =
          times_assoc a b (times e f)
          ∙ ap (times a) (sym (times_assoc b e f) ∙ ap (λ q. times q f) (times_comm b e) ∙ times_assoc e b f)
          ∙ sym (times_assoc a e (times b f))

  one : Calculation
  one = calculation Mul x y

  two : Calculation
  two = calculation Mul (times x y) (whole_fraction (pos rest))

  none_is : (p q : Bool) → (if p then (if q then None else Some two) else Some one) ≡ None → q ≡ true
  none_is p q e = grind arith

  -- so that something is refused exactly where the whole does not fit
  pub cancelled_misfit : (misfit : Option Calculation) → misfit ≡ first_misfit (cancelled_calculations c d first second rest) → IsCancelledMisfit c d n misfit
  unfolding one two
  cancelled_misfit misfit h = grind (arith, cancelled_product, none_is, one, two, part_fits, rest_positive, apart)

-- a quotient is no greater than the number
pub part_le : (n h : ℕ) → n / h ≤ n
part_le n h = grind arith

-- what is cancelled against the two denominators, with the rest, makes the number
pub cancelled_is : (c d : Fraction) (n q s first second : ℕ) → 1 ≤ n → q ≡ c.den → s ≡ d.den → IsGcd n q first → IsGcd (n / first) s second → IsCancelled n c d first second (n / first / second)
cancelled_is c d n q s first second h q-is s-is f g = record {
  whole = sym (mul-div_cancel' first f.0) ∙ ap (λ m. first * m) (sym (mul-div_cancel' second g.0)) ∙ omega arith;
  with_first = subst (λ m. IsGcd n m first) q-is f;
  with_second = subst (λ m. IsGcd m d.den second) (sym (mul-div_cancel' second g.0)) (subst (λ m. IsGcd (n / first) m second) s-is g);
}
