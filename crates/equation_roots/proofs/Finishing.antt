-- What is left of degree at most 2, with its roots.
use Rattle.std.proofs.Common.{◌≡◌, ◌≢◌, ℕ, zero, suc, ◌*◌, ◌<◌, ◌≤◌, ◌^◌, ℤ, pos, negsuc, ◌+ℤ◌, ◌-ℤ◌, ◌*ℤ◌, ◌<ℤ◌, neg_ℤ, nat_abs, true, false, List, [], ◌∷◌, map, length, get_or, refl, sym, ap, ◌∙◌, subst, arith}
use Rattle.std.proofs.lemmas.Int.{ints}
use Rattle.calc_terms.specs.Fractions.{Fraction, lowest, plus, times, negative, zero_fraction, one_fraction, whole_fraction, mul_pos}
use Rattle.calc_terms.specs.Integers.{parts, diffs, eq_diff, int_is_negative}
use Rattle.calc_terms.proofs.SmallLaws.{times_one}
use Rattle.calc_algebra.specs.Clean.{IsClean}
use Rattle.equation_roots.specs.{Coefficients.{Dense, at, times_all, times_linear}, Factorings.{IsAboveZero, IsRest, Rest, dense_of, nothing, rootless}}
use Rattle.equation_roots.specs.{Rationals.{IsInserted}, Rests.{pair_of}, Squares.{Finishes, IsCompleted}, Wholes.{fractions, leading, linear_product}}
use Rattle.equation_roots.proofs.Formula.{coefficients, constant, constant_quotient, middle, middle_sum, pair_constant, pair_product, pair_sum, rational_product, rational_sum, rootless_is, two_factors}
use Rattle.equation_roots.proofs.{Candidates.{positive_abs, positive_is}, Linear.{linear_fractions}, RootQuotients.{zero_above}, Steps.{inserted}}
use Rattle.equation_roots.proofs.{Values.{SameDense, all_scaled, at_scaled, same_sym, same_trans}, Wide.{handed, times_zero_int, told}}
use Rattle.equation_roots.proofs.Sizes.{half_at_most}

-- ---- the square completed

abbrev Fits : ℤ → Type 0
Fits z = nat_abs z < 2 ^ 127

even_linear : (a b h : ℤ) → pos 2 *ℤ h ≡ b → b *ℤ a ≡ a *ℤ (h +ℤ h)
even_linear a b h e = ap (λ z. z *ℤ a) (sym e) ∙ turned
  where
    turned : (pos 2 *ℤ h) *ℤ a ≡ a *ℤ (h +ℤ h)
    turned = rw (parts a, parts h) (simp diffs (eq_diff _ _ _ _ (omega arith)))

even_constant : (a c h : ℤ) → c *ℤ (a *ℤ a) ≡ a *ℤ (h *ℤ h -ℤ (h *ℤ h +ℤ neg_ℤ (a *ℤ c)))
even_constant a c h = rw (parts a, parts c, parts h) (simp diffs (eq_diff _ _ _ _ (omega arith)))

odd_linear : (a b : ℤ) → b *ℤ (pos 2 *ℤ a) ≡ a *ℤ (b +ℤ b)
odd_linear a b = rw (parts a, parts b) (simp diffs (eq_diff _ _ _ _ (omega arith)))

odd_constant : (a b c : ℤ) → c *ℤ ((pos 2 *ℤ a) *ℤ (pos 2 *ℤ a)) ≡ a *ℤ (b *ℤ b -ℤ (b *ℤ b +ℤ neg_ℤ (pos 4 *ℤ (a *ℤ c))))
odd_constant a b c = rw (parts a, parts b, parts c) (simp diffs (eq_diff _ _ _ _ (omega arith)))

twice_positive : (a : ℤ) → pos 0 <ℤ a → pos 0 <ℤ (pos 2 *ℤ a)
twice_positive a h = omega (arith, ints, h)

pub even_completed : (a b c h s o m u : ℤ) → pos 0 <ℤ a → Fits a → Fits c → Fits h → Fits s → Fits o → Fits m → Fits u → pos 2 *ℤ h ≡ b
    → s ≡ handed h *ℤ handed h → o ≡ handed a *ℤ handed c → m ≡ neg_ℤ (handed o) → u ≡ handed s +ℤ handed m → IsCompleted a b c (handed h) (handed a) (handed u)
even_completed a b c h s o m u p fa fc fh fs fo fm fu even se oe me ue =
    subst (λ x. IsCompleted a b c x (handed a) (handed u)) (sym (told h fh)) (subst (λ x. IsCompleted a b c h x (handed u)) (sym (told a fa)) (subst (λ x. IsCompleted a b c h a x) (sym (told u fu)) plain))
  where
    under : u ≡ h *ℤ h +ℤ neg_ℤ (a *ℤ c)
    under =
        ue ∙ (λ i. (told s fs ∙ se ∙ (λ j. told h fh j *ℤ told h fh j)) i +ℤ (told m fm ∙ me ∙ ap neg_ℤ (told o fo ∙ oe ∙ (λ j. told a fa j *ℤ told c fc j))) i)

    plain : IsCompleted a b c h a u
    plain = record {
      positive = p;
      linear = even_linear a b h even;
      constant = even_constant a c h ∙ ap (λ z. a *ℤ (h *ℤ h -ℤ z)) (sym under);
      half_at_most = half_at_most h b even;
      half_fits = fh;
      den_fits = fa;
      under_fits = fu;
    }

pub odd_completed : (a b c n s o f m u : ℤ) → pos 0 <ℤ a → Fits a → Fits b → Fits c → Fits n → Fits s → Fits o → Fits f → Fits m → Fits u
    → n ≡ pos 2 *ℤ handed a → s ≡ handed b *ℤ handed b → o ≡ handed a *ℤ handed c → f ≡ pos 4 *ℤ handed o → m ≡ neg_ℤ (handed f) → u ≡ handed s +ℤ handed m → IsCompleted a b c (handed b) (handed n) (handed u)
odd_completed a b c n s o f m u p fa fb fc fn fs fo ff fm fu ne se oe fe me ue =
    subst (λ x. IsCompleted a b c x (handed n) (handed u)) (sym (told b fb)) (subst (λ x. IsCompleted a b c b x (handed u)) (sym (told n fn)) (subst (λ x. IsCompleted a b c b n x) (sym (told u fu)) plain))
  where
    den : n ≡ pos 2 *ℤ a
    den = ne ∙ ap (λ z. pos 2 *ℤ z) (told a fa)

    under : u ≡ b *ℤ b +ℤ neg_ℤ (pos 4 *ℤ (a *ℤ c))
    under =
        ue ∙ (λ i. (told s fs ∙ se ∙ (λ j. told b fb j *ℤ told b fb j)) i
        +ℤ (told m fm ∙ me ∙ ap neg_ℤ (told f ff ∙ fe ∙ ap (λ z. pos 4 *ℤ z) (told o fo ∙ oe ∙ (λ j. told a fa j *ℤ told c fc j)))) i)

    plain : IsCompleted a b c b n u
    plain = record {
      positive = subst (λ (z : ℤ). pos 0 <ℤ z) (sym den) (twice_positive a p);
      linear = ap (λ z. b *ℤ z) den ∙ odd_linear a b;
      constant = (λ i. c *ℤ (den i *ℤ den i)) ∙ odd_constant a b c ∙ ap (λ z. a *ℤ (b *ℤ b -ℤ z)) (sym under);
      half_at_most = omega arith;
      half_fits = fb;
      den_fits = fn;
      under_fits = fu;
    }

-- ---- degree 2

pub same_of : {p w : Dense} → p ≡ w → SameDense p w
same_of e = record { each = λ k. ap (at k) e }

pub positive_not_zero : (a : ℤ) → pos 0 <ℤ a → whole_fraction a ≢ zero_fraction
positive_not_zero a h e = let z : a ≡ pos 0 = zero_above a 1 (omega arith) e in absurd (omega (arith, ints, h, ap nat_abs z))

pub finishes_from : (found found' : List Fraction) (left : List ℤ) (a : ℤ) (p : Dense) (rest : Rest) → pos 0 <ℤ a → fractions left ≡ map (times (whole_fraction a)) p
    → SameDense (times_all found p) (times_all found' (dense_of rest)) → IsRest rest → Finishes found left found' rest
finishes_from found found' left a p rest h e same r = record {
  lead = whole_fraction a;
  not_zero = positive_not_zero a h;
  equal = λ k.
      ap (λ w. at k (times_all found w)) e ∙ (all_scaled found (whole_fraction a) p).each k ∙ at_scaled (whole_fraction a) (times_all found p) k ∙ ap (times (whole_fraction a)) (same.each k);
  remains = r;
}

three_of : (l : List ℤ) → length l ≡ 3 → l ≡ get_or l 0 (pos 0) ∷ get_or l 1 (pos 0) ∷ get_or l 2 (pos 0) ∷ []
three_of [] h = absurd (omega (arith, h))
three_of (x ∷ []) h = absurd (omega (arith, h))
three_of (x ∷ y ∷ []) h = absurd (omega (arith, h))
three_of (x ∷ y ∷ z ∷ []) h = refl
three_of (x ∷ y ∷ z ∷ w ∷ l) h = absurd (omega (arith, h))

minus_zero : (h : ℤ) → neg_ℤ h +ℤ neg_ℤ (pos 0) ≡ neg_ℤ h
minus_zero h = omega (arith, ints)

plus_nothing : (h : ℤ) → neg_ℤ h +ℤ pos 0 ≡ neg_ℤ h
plus_nothing h = omega (arith, ints)

module _ (found : List Fraction) (left : List ℤ) (h den d : ℤ) (three : length left ≡ 3) (p : pos 0 <ℤ get_or left 2 (pos 0))
    (k : IsCompleted (get_or left 2 (pos 0)) (get_or left 1 (pos 0)) (get_or left 0 (pos 0)) h den d) where
  abbrev pub a : ℤ
  a = get_or left 2 (pos 0)

  abbrev pub b : ℤ
  b = get_or left 1 (pos 0)

  abbrev pub c : ℤ
  c = get_or left 0 (pos 0)

  abbrev pub n : ℕ
  n = nat_abs den

  n_above : 0 < n
  n_above = positive_abs den k.positive

  linear : b *ℤ pos n ≡ a *ℤ (h +ℤ h)
  linear = ap (λ z. b *ℤ z) (sym (positive_is den k.positive)) ∙ k.linear

  free : c *ℤ (pos n *ℤ pos n) ≡ a *ℤ (h *ℤ h -ℤ d)
  free = (let e = sym (positive_is den k.positive) in λ i. c *ℤ (e i *ℤ e i)) ∙ k.constant

  abbrev pub monic : Dense
  monic = constant h d n ∷ plus (middle h n) (middle h n) ∷ one_fraction ∷ []

  scaled : fractions left ≡ map (times (whole_fraction a)) monic
  scaled = ap fractions (three_of left three) ∙ coefficients a b c h d n n_above linear free

  pub finish_two : (o : ℤ) (f1 f2 : List Fraction) (r s : Fraction) → d ≡ o *ℤ o → r ≡ lowest (neg_ℤ h +ℤ neg_ℤ o) n → s ≡ lowest (neg_ℤ h +ℤ o) n
      → IsInserted r found f1 → IsInserted s f1 f2 → Finishes found left f2 nothing
  finish_two o f1 f2 r s square re se i1 i2 =
      finishes_from found f2 left a monic nothing p scaled
      (same_sym (same_trans (inserted s f1 f2 (one_fraction ∷ []) i2) (same_trans (inserted r found f1 (times_linear s (one_fraction ∷ [])) i1) (same_of (ap (times_all found) product)))))
      tt
    where
      product : times_linear r (times_linear s (one_fraction ∷ [])) ≡ monic
      product =
          two_factors r s
          ∙ (let first = (λ j. times (re j) (se j)) ∙ rational_product h d o n n_above square in
          let second = (λ j. negative (plus (re j) (se j))) ∙ rational_sum h d o n n_above square in
          λ i. first i ∷ second i ∷ one_fraction ∷ [])

  pub finish_double : (f1 f2 : List Fraction) (m : Fraction) → d ≡ pos 0 → m ≡ lowest (neg_ℤ h) n → IsInserted m found f1 → IsInserted m f1 f2 → Finishes found left f2 nothing
  finish_double f1 f2 m e me i1 i2 =
      finish_two (pos 0) f1 f2 m m (e ∙ sym (times_zero_int (pos 0))) (me ∙ ap (λ z. lowest z n) (sym (minus_zero h))) (me ∙ ap (λ z. lowest z n) (sym (plus_nothing h))) i1 i2

  pub finish_pair : (o t : ℕ) (m s : Fraction) → d ≡ pos (o * o * t) → m ≡ lowest (neg_ℤ h) n → s ≡ lowest (pos o) n → IsClean t → 2 ≤ t → IsAboveZero s
      → Finishes found left found (pair_of m s t)
  finish_pair o t m s square me se clean irrational order =
      finishes_from found found left a monic (pair_of m s t) p scaled (same_of (ap (times_all found) (sym dense)))
      (record { sum = pair_sum m s t; product = pair_product m s t; clean = clean; irrational = irrational; order = order })
    where
      dense : dense_of (pair_of m s t) ≡ monic
      dense =
          let first = (λ j. plus (times (me j) (me j)) (negative (times (times (se j) (se j)) (whole_fraction (pos t))))) ∙ pair_constant h d n o t n_above square in
          let second = (λ j. negative (plus (me j) (me j))) ∙ middle_sum h n n_above in
          λ i. first i ∷ second i ∷ one_fraction ∷ []

  pub finish_rootless : (g e : Fraction) → d <ℤ pos 0 → g ≡ lowest h n → e ≡ lowest c (nat_abs a) → Finishes found left found (rootless g e)
  finish_rootless g e below ge ee =
      finishes_from found found left a monic (rootless g e) p scaled (same_of (ap (times_all found) (sym dense)))
      (subst (λ x. IsRest (rootless x e)) (sym ge) (subst (λ x. IsRest (rootless (middle h n) x)) (sym constant_is) (rootless_is h d n n_above below)))
    where
      constant_is : e ≡ constant h d n
      constant_is = ee ∙ constant_quotient a b c h d n n_above linear free (nat_abs a) (positive_abs a p) (positive_is a p)

      dense : dense_of (rootless g e) ≡ monic
      dense = λ i. constant_is i ∷ plus (ge i) (ge i) ∷ one_fraction ∷ []

-- ---- the same, as the numbers are handed on

pub two_handed : (found : List Fraction) (left : List ℤ) (h den d o m x l u : ℤ) (three : length left ≡ 3) (p : pos 0 <ℤ get_or left 2 (pos 0))
    → IsCompleted (get_or left 2 (pos 0)) (get_or left 1 (pos 0)) (get_or left 0 (pos 0)) h den d → Fits o → Fits m → Fits x → Fits l → Fits u → d ≡ o *ℤ o
    → m ≡ neg_ℤ (handed h) → x ≡ neg_ℤ (handed o) → l ≡ handed m +ℤ handed x → u ≡ handed m +ℤ handed o → (f1 f2 : List Fraction) (r s : Fraction)
    → r ≡ lowest (handed l) (nat_abs (handed den)) → s ≡ lowest (handed u) (nat_abs (handed den)) → IsInserted r found f1 → IsInserted s f1 f2 → Finishes found left f2 nothing
two_handed found left h den d o m x l u three p k fo fm fx fl fu square me xe le ue f1 f2 r s re se i1 i2 =
    finish_two found left h den d three p k o f1 f2 r s square
    (re ∙ (λ i. lowest ((told l fl ∙ le ∙ (λ j. middle_is j +ℤ (told x fx ∙ xe ∙ ap neg_ℤ (told o fo)) j)) i) (nat_abs (told den k.den_fits i))))
    (se ∙ (λ i. lowest ((told u fu ∙ ue ∙ (λ j. middle_is j +ℤ told o fo j)) i) (nat_abs (told den k.den_fits i)))) i1 i2
  where
    middle_is : handed m ≡ neg_ℤ h
    middle_is = told m fm ∙ me ∙ ap neg_ℤ (told h k.half_fits)

pub zero_fits : nat_abs (pos 0) < 2 ^ 127
zero_fits = omega arith

-- o * o * t, where it is not 0 and fits
factor_positive : (o t : ℕ) → 0 < o * t → 0 < t
factor_positive o zero h = absurd (omega (arith, h))
factor_positive o (suc t) h = omega arith

at_most : (o m : ℕ) → 0 < m → o ≤ o * m
at_most o zero h = absurd (omega (arith, h))
at_most o (suc m) h = omega arith

pub outside_positive : (r o t : ℕ) → r ≡ o * o * t → 0 < r → 0 < o
outside_positive r zero t e h = absurd (omega (arith, e, h))
outside_positive r (suc o) t e h = omega arith

pub radicand_positive : (r o t : ℕ) → r ≡ o * o * t → 0 < r → 0 < t
radicand_positive r o t e h = factor_positive (o * o) t (omega (arith, e, h))

pub outside_fits : (r o t : ℕ) → r ≡ o * o * t → 0 < r → r < 2 ^ 127 → o < 2 ^ 127
outside_fits r o t e h f = let q = at_most o (o * t) (factor_positive o (o * t) (grouped r o t e h)) in omega (arith, q, same o t, e, f)
  where
    same : (o t : ℕ) → o * (o * t) ≡ o * o * t
    same o t = omega arith

    grouped : (r o t : ℕ) → r ≡ o * o * t → 0 < r → 0 < o * (o * t)
    grouped r o t e h = omega (arith, e, h, same o t)

pub radicand_fits : (r o t : ℕ) → r ≡ o * o * t → 0 < r → r < 2 ^ 127 → t < 2 ^ 127
radicand_fits r o t e h f =
    let p = outside_positive r o t e h in
    let q = at_most t (o * o) (mul_pos o o p p) in
    omega (arith, q, turned o t, e, f)
  where
    turned : (o t : ℕ) → t * (o * o) ≡ o * o * t
    turned o t = omega arith

pub square_of_outside : (d : ℤ) (o t : ℕ) → d ≡ pos (o * o * t) → t ≡ 1 → d ≡ pos o *ℤ pos o
square_of_outside d o t e f = e ∙ ap (λ n. pos (o * o * n)) f ∙ once
  where
    once : pos (o * o * 1) ≡ pos o *ℤ pos o
    once = simp diffs (eq_diff _ _ _ _ (omega arith))

pub above_rational : (q : Fraction) → IsAboveZero q → pos 0 <ℤ q.num
above_rational q h = subst (λ (z : ℤ). pos 0 <ℤ z) (sym h.1) (is_above h.0)
  where
    is_above : (n : ℕ) → pos 0 <ℤ pos (suc n)
    is_above n = omega (arith, ints)

pub positive_whole : (o : ℕ) → 0 < o → pos 0 <ℤ pos o
positive_whole o h = omega (arith, ints, h)

-- ---- degree 0 and 1

pub finish_none : (found : List Fraction) (left : List ℤ) → length left ≡ 1 → pos 0 <ℤ leading left → Finishes found left found nothing
finish_none found [] l h = absurd (omega (arith, l))
finish_none found (z ∷ []) l h =
    finishes_from found found (z ∷ []) z (one_fraction ∷ []) nothing h (λ i. sym (times_one (whole_fraction z)) i ∷ []) (same_of refl) tt
finish_none found (z ∷ w ∷ l) e h = absurd (omega (arith, e))

one_product : (c b : ℤ) → linear_product b c (pos 0) (pos 1 ∷ []) (pos 0) ≡ c ∷ b ∷ []
one_product c b = λ i. first i ∷ second i ∷ []
  where
    first : b *ℤ pos 0 +ℤ c *ℤ pos 1 ≡ c
    first = let z = times_zero_int b in omega (arith, ints, z)

    second : b *ℤ pos 1 +ℤ c *ℤ pos 0 ≡ b
    second = let z = times_zero_int c in omega (arith, ints, z)

neg_twice : (c : ℤ) → neg_ℤ (neg_ℤ c) ≡ c
neg_twice c = omega (arith, ints)

pub finish_one : (found found' : List Fraction) (left : List ℤ) (r : Fraction) → length left ≡ 2 → pos 0 <ℤ leading left
    → r ≡ lowest (neg_ℤ (get_or left 0 (pos 0))) (nat_abs (get_or left 1 (pos 0))) → IsInserted r found found' → Finishes found left found' nothing
unfolding one_fraction
finish_one found found' [] r l h e i = absurd (omega (arith, l))
finish_one found found' (c ∷ []) r l h e i = absurd (omega (arith, l))
finish_one found found' (c ∷ b ∷ []) r l h e i =
    finishes_from found found' (c ∷ b ∷ []) b (times_linear r (one_fraction ∷ [])) nothing h made (same_sym (inserted r found found' (one_fraction ∷ []) i)) tt
  where
    n : ℕ
    n = nat_abs b

    made : fractions (c ∷ b ∷ []) ≡ map (times (whole_fraction b)) (times_linear r (one_fraction ∷ []))
    made =
        ap fractions (sym (one_product c b)) ∙ (λ j. fractions (linear_product (positive_is b h j) (sym (neg_twice c) j) (pos 0) (pos 1 ∷ []) (pos 0)))
        ∙ linear_fractions (neg_ℤ c) n (pos 1 ∷ []) (positive_abs b h) ∙ (λ j. map (times (whole_fraction (sym (positive_is b h) j))) (times_linear (sym e j) (one_fraction ∷ [])))
finish_one found found' (c ∷ b ∷ z ∷ l) r f h e i = absurd (omega (arith, f))

-- ---- roots that are irrational

pub negative_is_below : (d : ℤ) → int_is_negative d ≡ true → d <ℤ pos 0
negative_is_below (pos n) h = cc
negative_is_below (negsuc n) h = omega (arith, ints)

pub not_negative_is : (d : ℤ) → int_is_negative d ≡ false → d ≡ pos (nat_abs d)
not_negative_is (pos n) h = refl
not_negative_is (negsuc n) h = cc

pub above_is : (z : ℤ) → pos 0 <ℤ z → (n : ℕ) × (z ≡ pos (suc n))
above_is (pos zero) h = absurd (omega (arith, ints, h))
above_is (pos (suc n)) h = (n, refl)
above_is (negsuc n) h = absurd (omega (arith, ints, h))
