-- The roots of a polynomial of degree 2 whose square is completed.
use Rattle.std.proofs.Common.{◌≡◌, ℕ, zero, suc, ◌*◌, ◌<◌, ℤ, pos, negsuc, ◌+ℤ◌, ◌-ℤ◌, ◌*ℤ◌, ◌<ℤ◌, neg_ℤ, [], ◌∷◌, ◌++◌, map, refl, sym, ap, ◌∙◌, subst, arith}
use Rattle.std.proofs.lemmas.Int.{ints}
use Rattle.calc_terms.specs.{FractionLaws.{negative_lowest, plus_negative, times_comm, zero_plus}, Integers.{parts, diffs, eq_diff, combine}}
use Rattle.calc_terms.specs.Fractions.{Fraction, lowest, plus, times, negative, zero_fraction, one_fraction, whole_fraction, mul_pos, den_pos, lowest_parts, same_lowest, plus_lowest, times_lowest, lowest_cross}
use Rattle.calc_terms.proofs.{SmallLaws.{plus_both, times_one}}
use Rattle.calc_algebra.specs.{SquareClasses.{Same}, Surds.{term, surd_of, surd_times}}
use Rattle.calc_algebra.proofs.TermLaws.{Same-append, Same-cons, Same-eq, Same-to_front, extracted, joined_radicand, zero_term}
use Rattle.calc_algebra.proofs.SquareClassLaws.{Same-trans}
use Rattle.calc_algebra.proofs.InverseLaws.{negative_times}
use Rattle.equation_roots.specs.{Coefficients.{times_linear}, Factorings.{IsAboveZero, IsBelowZero, lower, upper}, Wholes.{fractions}}
use Rattle.equation_roots.proofs.Vieta.{negative_plus_self, negative_twice}

one_pos : 0 < 1
one_pos = omega arith

-- half/den, and what is under the root over den^2
abbrev pub middle : ℤ → ℕ → Fraction
middle h n = lowest h n

abbrev pub discriminant : ℤ → ℕ → Fraction
discriminant d n = lowest d (n * n)

abbrev pub constant : ℤ → ℤ → ℕ → Fraction
constant h d n = plus (times (middle h n) (middle h n)) (negative (discriminant d n))

module _ (a b c h d : ℤ) (n : ℕ) (p : 0 < n) (linear : b *ℤ pos n ≡ a *ℤ (h +ℤ h)) (free : c *ℤ (pos n *ℤ pos n) ≡ a *ℤ (h *ℤ h -ℤ d)) where
  q : 0 < n * n
  q = mul_pos n n p p

  constant_is : constant h d n ≡ lowest ((h *ℤ h) *ℤ pos (n * n) +ℤ neg_ℤ d *ℤ pos (n * n)) ((n * n) * (n * n))
  constant_is =
      ap (λ x. plus x (negative (discriminant d n))) (times_lowest h h n n p p) ∙ ap (plus (lowest (h *ℤ h) (n * n))) (negative_lowest d (n * n) q)
      ∙ plus_lowest (h *ℤ h) (neg_ℤ d) (n * n) (n * n) q q

  pub first_coefficient : whole_fraction c ≡ times (whole_fraction a) (constant h d n)
  first_coefficient =
      same_lowest c _ 1 _ one_pos (mul_pos 1 _ one_pos (mul_pos _ _ q q))
      (combine _ _ (pos (n * n)) _ _ (rw (parts a, parts c, parts h, parts d) (simp diffs (eq_diff _ _ _ _ (omega arith)))) free)
      ∙ sym (ap (times (whole_fraction a)) constant_is ∙ times_lowest a _ 1 _ one_pos (mul_pos _ _ q q))

  pub second_coefficient : whole_fraction b ≡ times (whole_fraction a) (plus (middle h n) (middle h n))
  second_coefficient =
      same_lowest b _ 1 _ one_pos (mul_pos 1 _ one_pos q)
      (combine _ _ (pos n) _ _ (rw (parts a, parts b, parts h) (simp diffs (eq_diff _ _ _ _ (omega arith)))) linear)
      ∙ sym (ap (times (whole_fraction a)) (plus_lowest h h n n p p) ∙ times_lowest a _ 1 _ one_pos q)

  pub third_coefficient : whole_fraction a ≡ times (whole_fraction a) one_fraction
  third_coefficient = sym (times_one (whole_fraction a))

  pub coefficients : fractions (c ∷ b ∷ a ∷ []) ≡ map (times (whole_fraction a)) (constant h d n ∷ plus (middle h n) (middle h n) ∷ one_fraction ∷ [])
  coefficients = λ i. first_coefficient i ∷ second_coefficient i ∷ third_coefficient i ∷ []

  pub constant_quotient : (m : ℕ) → 0 < m → a ≡ pos m → lowest c m ≡ constant h d n
  constant_quotient m k e =
      same_lowest c _ m _ k (mul_pos _ _ q q)
      (combine _ _ (pos (n * n)) _ _ (rw (parts c, parts h, parts d) (simp diffs (eq_diff _ _ _ _ (omega arith)))) (free ∙ ap (λ z. z *ℤ (h *ℤ h -ℤ d)) e))
      ∙ sym constant_is

-- ---- fractions

module _ (p r : ℤ) (q s : ℕ) (hq : 0 < q) (hs : 0 < s) where
  back_in : plus (lowest p q) (negative (plus (lowest p q) (negative (lowest r s)))) ≡ lowest r s
  back_in = simp (plus_lowest, negative_lowest, mul_pos)
      (same_lowest _ _ _ _ (mul_pos _ _ hq (mul_pos _ _ hq hs)) hs (rw (parts p, parts r) (simp diffs (eq_diff _ _ _ _ (omega arith)))))

  minus_times_in : times (negative (lowest p q)) (negative (lowest r s)) ≡ times (lowest p q) (lowest r s)
  minus_times_in = simp (times_lowest, negative_lowest)
      (same_lowest _ _ _ _ (mul_pos _ _ hq hs) (mul_pos _ _ hq hs) (rw (parts p, parts r) (simp diffs (eq_diff _ _ _ _ (omega arith)))))

  minus_plus_in : plus (negative (lowest r s)) (negative (lowest p q)) ≡ negative (plus (lowest p q) (lowest r s))
  minus_plus_in = simp (plus_lowest, negative_lowest, mul_pos)
      (same_lowest _ _ _ _ (mul_pos _ _ hs hq) (mul_pos _ _ hq hs) (rw (parts p, parts r) (simp diffs (eq_diff _ _ _ _ (omega arith)))))

pub difference_back : (x e : Fraction) → plus x (negative (plus x (negative e))) ≡ e
difference_back x e = rw (lowest_parts x, lowest_parts e) (back_in _ _ _ _ (den_pos x) (den_pos e))

minus_times : (x e : Fraction) → times (negative x) (negative e) ≡ times x e
minus_times x e = rw (lowest_parts x, lowest_parts e) (minus_times_in _ _ _ _ (den_pos x) (den_pos e))

minus_plus : (x e : Fraction) → plus (negative e) (negative x) ≡ negative (plus x e)
minus_plus x e = rw (lowest_parts x, lowest_parts e) (minus_plus_in _ _ _ _ (den_pos x) (den_pos e))

-- ---- below 0

below_from : (z d : ℤ) (m e : ℕ) → 0 < e → d <ℤ pos 0 → z *ℤ pos m ≡ d *ℤ pos e → (n : ℕ) × (z ≡ negsuc n)
below_from (negsuc n) d m e h l f = (n, refl)
below_from (pos j) (pos k) m e h l f = absurd (omega (arith, ints, l))
below_from (pos j) (negsuc k) m e h l f = absurd (omega (arith, ints, mul_pos (suc k) e (omega arith) h, f))

below : (d : ℤ) (m : ℕ) → 0 < m → d <ℤ pos 0 → IsBelowZero (lowest d m)
below d m p l = below_from (lowest d m).num d m (lowest d m).den (den_pos (lowest d m)) l (lowest_cross d m p)

above_from : (z d : ℤ) (m e : ℕ) → 0 < e → pos 0 <ℤ d → z *ℤ pos m ≡ d *ℤ pos e → (n : ℕ) × (z ≡ pos (suc n))
above_from (negsuc n) (pos zero) m e h l f = absurd (omega (arith, ints, l))
above_from (negsuc n) (pos (suc k)) m e h l f = absurd (omega (arith, ints, mul_pos (suc k) e (omega arith) h, f))
above_from (negsuc n) (negsuc k) m e h l f = absurd (omega (arith, ints, l))
above_from (pos zero) (pos zero) m e h l f = absurd (omega (arith, ints, l))
above_from (pos zero) (pos (suc k)) m e h l f = absurd (omega (arith, ints, mul_pos (suc k) e (omega arith) h, f))
above_from (pos zero) (negsuc k) m e h l f = absurd (omega (arith, ints, l))
above_from (pos (suc n)) d m e h l f = (n, refl)

pub above : (d : ℤ) (m : ℕ) → 0 < m → pos 0 <ℤ d → IsAboveZero (lowest d m)
above d m p l = above_from (lowest d m).num d m (lowest d m).den (den_pos (lowest d m)) l (lowest_cross d m p)

pub rootless_is : (h d : ℤ) (n : ℕ) → 0 < n → d <ℤ pos 0 → IsBelowZero (plus (times (middle h n) (middle h n)) (negative (constant h d n)))
rootless_is h d n p l = subst IsBelowZero (sym (difference_back (times (middle h n) (middle h n)) (discriminant d n))) (below d (n * n) (mul_pos n n p p) l)

-- ---- two rationals

pub two_factors : (r s : Fraction) → times_linear r (times_linear s (one_fraction ∷ [])) ≡ times r s ∷ negative (plus r s) ∷ one_fraction ∷ []
two_factors r s = λ i. first i ∷ second i ∷ one_fraction ∷ []
  where
    x_is : plus zero_fraction (times (negative s) one_fraction) ≡ negative s
    x_is = zero_plus (times (negative s) one_fraction) ∙ times_one (negative s)

    first : plus zero_fraction (times (negative r) (plus zero_fraction (times (negative s) one_fraction))) ≡ times r s
    first = zero_plus (times (negative r) (plus zero_fraction (times (negative s) one_fraction))) ∙ ap (times (negative r)) x_is ∙ minus_times r s

    second : plus (plus zero_fraction (times (negative s) one_fraction)) (times (negative r) one_fraction) ≡ negative (plus r s)
    second = plus_both x_is (times_one (negative r)) ∙ minus_plus r s

-- the sum and the product of the roots, whose distance from the middle is o/n
module _ (h d o : ℤ) (n : ℕ) (p : 0 < n) (square : d ≡ o *ℤ o) where
  pub rational_sum : negative (plus (lowest (neg_ℤ h +ℤ neg_ℤ o) n) (lowest (neg_ℤ h +ℤ o) n)) ≡ plus (middle h n) (middle h n)
  rational_sum = simp (plus_lowest, negative_lowest, mul_pos)
      (same_lowest _ _ _ _ (mul_pos _ _ p p) (mul_pos _ _ p p) (rw (parts h, parts o) (simp diffs (eq_diff _ _ _ _ (omega arith)))))

  square_pos : 0 < n * n
  square_pos = mul_pos n n p p

  product_in : times (lowest (neg_ℤ h +ℤ neg_ℤ o) n) (lowest (neg_ℤ h +ℤ o) n) ≡ plus (times (lowest h n) (lowest h n)) (negative (lowest (o *ℤ o) (n * n)))
  product_in = simp (plus_lowest, times_lowest, negative_lowest, mul_pos)
      (same_lowest _ _ _ _ square_pos (mul_pos _ _ square_pos square_pos) (rw (parts h, parts o) (simp diffs (eq_diff _ _ _ _ (omega arith)))))

  pub rational_product : times (lowest (neg_ℤ h +ℤ neg_ℤ o) n) (lowest (neg_ℤ h +ℤ o) n) ≡ constant h d n
  rational_product = product_in ∙ ap (λ z. plus (times (lowest h n) (lowest h n)) (negative (lowest z (n * n)))) (sym square)

-- ---- a pair

pub middle_sum : (h : ℤ) (n : ℕ) → 0 < n → negative (plus (lowest (neg_ℤ h) n) (lowest (neg_ℤ h) n)) ≡ plus (middle h n) (middle h n)
middle_sum h n p =
    ap negative (plus_both (sym (negative_lowest h n p)) (sym (negative_lowest h n p)) ∙ minus_plus (middle h n) (middle h n)) ∙ negative_twice (plus (middle h n) (middle h n))

module _ (h d : ℤ) (n o t : ℕ) (p : 0 < n) (square : d ≡ pos (o * o * t)) where
  beside_in : times (times (lowest (pos o) n) (lowest (pos o) n)) (lowest (pos t) 1) ≡ lowest (pos (o * o * t)) (n * n)
  beside_in = simp (times_lowest, mul_pos, one_pos)
      (same_lowest _ _ _ _ (mul_pos _ _ (mul_pos _ _ p p) one_pos) (mul_pos _ _ p p) (simp diffs (eq_diff _ _ _ _ (omega arith))))

  pub pair_constant : plus (times (lowest (neg_ℤ h) n) (lowest (neg_ℤ h) n)) (negative (times (times (lowest (pos o) n) (lowest (pos o) n)) (whole_fraction (pos t)))) ≡ constant h d n
  pair_constant =
      plus_both (let e = sym (negative_lowest h n p) in (λ i. times (e i) (e i)) ∙ minus_times (middle h n) (middle h n))
      (ap negative (beside_in ∙ ap (λ z. lowest z (n * n)) (sym square)))

module _ (m s : Fraction) (t : ℕ) where
  pub pair_sum : Same (lower m s t ++ upper m s t) (surd_of (negative (negative (plus m m))))
  pair_sum =
      Same-trans (Same-cons (term m 1) (Same-to_front (term (negative s) t ∷ []) (term m 1) (term s t ∷ [])))
      (Same-trans (Same-append (joined_radicand m m 1) (Same-trans (joined_radicand (negative s) s t) (Same-trans (Same-eq (ap (λ c. term c t ∷ []) (negative_plus_self s))) (zero_term t))))
      (Same-eq (ap (λ c. term c 1 ∷ []) (sym (negative_twice (plus m m))))))

  middle_gone : Same (term (times m s) (1 * t) ∷ term (times (negative s) m) (t * 1) ∷ []) []
  middle_gone =
      Same-trans (Same-eq (λ i. term (times m s) (left i) ∷ term (times (negative s) m) (right i) ∷ []))
      (Same-trans (joined_radicand (times m s) (times (negative s) m) t) (Same-trans (Same-eq (ap (λ c. term c t ∷ []) nothing)) (zero_term t)))
    where
      left : 1 * t ≡ t
      left = omega arith

      right : t * 1 ≡ t
      right = omega arith

      nothing : plus (times m s) (times (negative s) m) ≡ zero_fraction
      nothing = plus_both (times_comm m s) (negative_times s m) ∙ plus_negative (times s m)

  last_term : Same (term (times (negative s) s) (t * t) ∷ []) (term (negative (times (times s s) (whole_fraction (pos t)))) 1 ∷ [])
  last_term =
      Same-trans (extracted (times (negative s) s) (t * t) t 1 (omega arith))
      (Same-eq (ap (λ c. term c 1 ∷ []) (ap (λ x. times x (whole_fraction (pos t))) (negative_times s s) ∙ negative_times (times s s) (whole_fraction (pos t)))))

  pub pair_product : Same (surd_times (lower m s t) (upper m s t)) (surd_of (plus (times m m) (negative (times (times s s) (whole_fraction (pos t))))))
  pair_product =
      Same-trans (Same-cons (term (times m m) 1) (Same-append middle_gone last_term))
      (joined_radicand (times m m) (negative (times (times s s) (whole_fraction (pos t)))) 1)
