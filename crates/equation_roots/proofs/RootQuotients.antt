-- A whole polynomial with the root u/v in lowest terms is a multiple of vX - u over whole numbers.
use Rattle.std.proofs.Common.{◌≡◌, ◌≢◌, ℕ, suc, ◌*◌, ◌<◌, ℤ, pos, negsuc, ◌+ℤ◌, ◌*ℤ◌, neg_ℤ, nat_abs, List, [], ◌∷◌, length, refl, sym, ap, ◌∙◌, subst, arith}
use Rattle.std.proofs.lemmas.{Bool.{eqb-true}, Int.{ints, unsigned_abs-mul}}
use Rattle.std.specs.Int.{IsGcd}
use native.Mathlib.Nat.{dvd-mul_right, mul_assoc}
use Prim.Native.Nat.{◌∣◌}
use Rattle.calc_terms.specs.{Fractions.{Fraction, lowest, plus, times, zero_fraction, whole_fraction, mul_pos, same_lowest, plus_lowest, times_lowest, over, over_back, second_held}, Gcd.{gauss, gcd_is}, Integers.{parts, diffs, eq_diff}}
use Rattle.calc_terms.proofs.FractionFacts.{cross_products}
use Rattle.equation_roots.specs.{Coefficients.{value}, Wholes.{fractions, linear_product}}
use Rattle.equation_roots.proofs.Wide.{abs_neg, cancel_zero, times_comm_int, times_zero_int}

-- v to the power of the length
abbrev scale : ℕ → List ℤ → ℕ
scale v [] = 1
scale v (c ∷ cs) = v * scale v cs

-- the value at u/v, times that
abbrev scaled_value : ℤ → ℕ → List ℤ → ℤ
scaled_value u v [] = pos 0
scaled_value u v (c ∷ cs) = c *ℤ pos (v * scale v cs) +ℤ u *ℤ scaled_value u v cs

scale_positive : (v : ℕ) (cs : List ℤ) → 0 < v → 0 < scale v cs
scale_positive v [] h = omega arith
scale_positive v (c ∷ cs) h = mul_pos v (scale v cs) h (scale_positive v cs h)

one_pos : 0 < 1
one_pos = omega arith

module _ (c u w : ℤ) (v s : ℕ) (h : 0 < v) (k : 0 < s) where
  one_more : plus (lowest c 1) (times (lowest u v) (lowest w s)) ≡ lowest (c *ℤ pos (v * s) +ℤ u *ℤ w) (v * s)
  one_more = simp (plus_lowest, times_lowest, mul_pos, one_pos)
      (same_lowest _ _ _ _ (mul_pos _ _ one_pos (mul_pos _ _ h k)) (mul_pos _ _ h k) (rw (parts c, parts u, parts w) (simp diffs (eq_diff _ _ _ _ (omega arith)))))

value_is : (u : ℤ) (v : ℕ) (cs : List ℤ) → 0 < v → value (fractions cs) (lowest u v) ≡ lowest (scaled_value u v cs) (scale v cs)
unfolding zero_fraction
value_is u v [] h = refl
value_is u v (c ∷ cs) h =
    ap (λ x. plus (whole_fraction c) (times (lowest u v) x)) (value_is u v cs h) ∙ one_more c u (scaled_value u v cs) v (scale v cs) h (scale_positive v cs h)

pub zero_above : (p : ℤ) (q : ℕ) → 0 < q → lowest p q ≡ zero_fraction → p ≡ pos 0
unfolding zero_fraction
zero_above p q h e = let x : p *ℤ pos 1 ≡ pos 0 *ℤ pos q = cross_products p (pos 0) q 1 h one_pos e in omega (arith, ints, zero_left q)
  where
    zero_left : (q : ℕ) → pos 0 *ℤ pos q ≡ pos 0
    zero_left q = times_comm_int (pos 0) (pos q) ∙ times_zero_int (pos q)

pub scaled_zero : (u : ℤ) (v : ℕ) (cs : List ℤ) → 0 < v → value (fractions cs) (lowest u v) ≡ zero_fraction → scaled_value u v cs ≡ pos 0
scaled_zero u v cs h e = zero_above (scaled_value u v cs) (scale v cs) (scale_positive v cs h) (sym (value_is u v cs h) ∙ e)

-- u divides what it divides times powers of v
strip : (n v : ℕ) (cs : List ℤ) (s : ℕ) → IsGcd v n 1 → n ∣ s * scale v cs → n ∣ s
strip n v [] s g d = subst (λ x. n ∣ x) (omega arith) d
strip n v (c ∷ cs) s g d = gauss v n s g (strip n v cs (s * v) g (subst (λ x. n ∣ x) (sym (mul_assoc s v (scale v cs))) d))

swapped : (a b : ℕ) → IsGcd a b 1 → IsGcd b a 1
swapped a b (x, y, z) = (y, x, λ d p q. z d q p)

opposites : (p q : ℤ) → p +ℤ q ≡ pos 0 → p ≡ neg_ℤ q
opposites p q e = omega (arith, ints)

-- the first coefficient is a multiple of u
pub first_divides : (u : ℤ) (v : ℕ) (z : ℤ) (cs : List ℤ) → IsGcd (nat_abs u) v 1 → scaled_value u v (z ∷ cs) ≡ pos 0 → nat_abs u ∣ nat_abs z
first_divides u v z cs g e =
    strip (nat_abs u) v (z ∷ cs) (nat_abs z) (swapped _ _ g)
    (subst (λ x. nat_abs u ∣ x) (sym (sym (unsigned_abs-mul z (pos (v * scale v cs))) ∙ ap nat_abs (opposites _ _ e) ∙ abs_neg (u *ℤ scaled_value u v cs) ∙ unsigned_abs-mul u (scaled_value u v cs))) (dvd-mul_right (nat_abs u) (nat_abs (scaled_value u v cs))))

-- as a multiple
multiple_of : (u z : ℤ) → nat_abs u ∣ nat_abs z → (y : ℤ) × (z ≡ neg_ℤ u *ℤ y)
multiple_of (pos n) z d = (neg_ℤ (over z n), sym (over_back z n d) ∙ signs (over z n) (pos n))
  where
    signs : (a b : ℤ) → a *ℤ b ≡ neg_ℤ b *ℤ neg_ℤ a
    signs a b = rw (parts a, parts b) (simp diffs (eq_diff _ _ _ _ (omega arith)))
multiple_of (negsuc n) z d = (over z (suc n), sym (over_back z (suc n) d) ∙ times_comm_int (over z (suc n)) (pos (suc n)))

step_identity : (u v' y d s w : ℤ) → (neg_ℤ u *ℤ y) *ℤ (v' *ℤ (v' *ℤ s)) +ℤ u *ℤ (d *ℤ (v' *ℤ s) +ℤ u *ℤ w) ≡ u *ℤ ((d +ℤ neg_ℤ (v' *ℤ y)) *ℤ (v' *ℤ s) +ℤ u *ℤ w)
step_identity u v' y d s w = rw (parts u, parts v', parts y, parts d, parts s, parts w) (simp diffs (eq_diff _ _ _ _ (omega arith)))

-- the value of the rest
rest_zero : (u : ℤ) (v : ℕ) (z y d : ℤ) (ds : List ℤ) → u ≢ pos 0 → z ≡ neg_ℤ u *ℤ y → scaled_value u v (z ∷ d ∷ ds) ≡ pos 0 → scaled_value u v ((d +ℤ neg_ℤ (pos v *ℤ y)) ∷ ds) ≡ pos 0
rest_zero u v z y d ds h e f =
    cancel_zero u _ h (sym (step_identity u (pos v) y d (pos (scale v ds)) (scaled_value u v ds)) ∙ ap (λ x. x *ℤ pos (v * (v * scale v ds)) +ℤ u *ℤ (d *ℤ pos (v * scale v ds) +ℤ u *ℤ scaled_value u v ds)) (sym e) ∙ f)

before_is : (c a y : ℤ) → c +ℤ neg_ℤ a ≡ y → a +ℤ y ≡ c
before_is c a y e = omega (arith, ints)

quotient_from : (u x : ℤ) (v : ℕ) (c : ℤ) (cs : List ℤ) → 0 < v → u ≢ pos 0 → IsGcd (nat_abs u) v 1 → scaled_value u v ((c +ℤ neg_ℤ (pos v *ℤ x)) ∷ cs) ≡ pos 0
    → (qs : List ℤ) × (linear_product (pos v) (neg_ℤ u) x qs (pos 0) ≡ c ∷ cs)
quotient_from u x v c [] h k g e = ([], ap (λ z. z ∷ []) (ap (λ z. pos v *ℤ x +ℤ z) (times_zero_int (neg_ℤ u)) ∙ only))
  where
    zero : c +ℤ neg_ℤ (pos v *ℤ x) ≡ pos 0
    zero = cancel_zero (pos (v * 1)) _ (λ f. positive v h f) (times_comm_int (pos (v * 1)) (c +ℤ neg_ℤ (pos v *ℤ x)) ∙ no_more _ u e)
      where
        positive : (v : ℕ) → 0 < v → pos (v * 1) ≢ pos 0
        positive v h f = let n : v * 1 ≡ 0 = ap nat_abs f in omega (arith, n)

        no_more : (a u : ℤ) → a +ℤ u *ℤ pos 0 ≡ pos 0 → a ≡ pos 0
        no_more a u f = let z : u *ℤ pos 0 ≡ pos 0 = times_zero_int u in omega (arith, ints)

    only : pos v *ℤ x +ℤ pos 0 ≡ c
    only = before_is c (pos v *ℤ x) (pos 0) zero
quotient_from u x v c (d ∷ ds) h k g e =
    let m = multiple_of u (c +ℤ neg_ℤ (pos v *ℤ x)) (first_divides u v _ (d ∷ ds) g e) in
    let r = quotient_from u m.0 v d ds h k g (rest_zero u v _ m.0 d ds k m.1 e) in
    (m.0 ∷ r.0, λ i. (before_is c (pos v *ℤ x) (neg_ℤ u *ℤ m.0) m.1 i) ∷ r.1 i)

pub root_has_quotient : (u : ℤ) (v : ℕ) (cs : List ℤ) → 0 < length cs → 0 < v → u ≢ pos 0 → IsGcd (nat_abs u) v 1 → value (fractions cs) (lowest u v) ≡ zero_fraction
    → (qs : List ℤ) × (linear_product (pos v) (neg_ℤ u) (pos 0) qs (pos 0) ≡ cs)
root_has_quotient u v [] l h k g e = absurd (omega (arith, l))
root_has_quotient u v (c ∷ cs) l h k g e =
    quotient_from u (pos 0) v c cs h k g (ap (λ z. scaled_value u v (z ∷ cs)) (no_carry c v) ∙ scaled_zero u v (c ∷ cs) h e)
  where
    no_carry : (c : ℤ) (v : ℕ) → c +ℤ neg_ℤ (pos v *ℤ pos 0) ≡ c
    no_carry c v = let z : pos v *ℤ pos 0 ≡ pos 0 = times_zero_int (pos v) in omega (arith, ints)

pub fraction_coprime : (r : Fraction) → IsGcd (nat_abs r.num) r.den 1
fraction_coprime r = subst (λ g. IsGcd (nat_abs r.num) r.den g) (eqb-true _ 1 (second_held _ _ r.lowest)) (gcd_is (nat_abs r.num) r.den)
