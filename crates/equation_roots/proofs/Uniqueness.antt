-- A polynomial has one factoring, and its multiples have the same.
use Rattle.std.proofs.Common.{◌≡◌, ◌≢◌, ◌⊎◌, inl, inr, ℕ, zero, suc, ◌+◌, ◌*◌, ◌<◌, ◌≤◌, ◌^◌, ℤ, pos, ◌+ℤ◌, ◌*ℤ◌, ◌<ℤ◌, ◌≤ℤ◌, Bool, true, false, List, [], ◌∷◌, map, length, Contains, refl, sym, ap, ◌∙◌, subst, arith}
use Rattle.std.proofs.lemmas.Int.{ints}
use Rattle.std.specs.{Cmp.{int_ranks}, Ordering.{int_cmp, MatchOrdering}, declared.cmp.Ordering.{Ordering}, declared.cmp.Ordering.TheVariants.{Less, Equal, Greater}}
use Rattle.calc_terms.specs.FractionLaws.{one_times, plus_negative, times_assoc, times_comm, times_plus, zero_times}
use Rattle.calc_terms.specs.Fractions.{Fraction, plus, times, negative, inverse, zero_fraction, one_fraction, whole_fraction, fraction_cmp, den_pos, mul_pos, plus_assoc, plus_comm, same_fraction}
use Rattle.calc_terms.specs.Integers.{parts, diffs, eq_diff}
use Rattle.calc_terms.proofs.{FractionFacts.{whole_numerator}, SmallFractions.{plus_zero}, SmallLaws.{plus_both, times_one}}
use Rattle.calc_algebra.specs.{Clean.{IsClean}, SquareClasses.{Same, are_alike}, Surds.{surd_of}}
use Rattle.calc_algebra.proofs.InverseLaws.{difference_not_zero, inverse_times_itself, negative_times, product_not_zero, same_from_difference, zero_is_not_one}
use Rattle.calc_algebra.proofs.{CleanLaws.{alike_square_free, clean_square_free}, MeaningLaws.{at_front, none_in, surd_of_one}, SquareClassLaws.{Same-Agree}}
use Rattle.calc_algebra.proofs.SurdLaws.{Agree-Same, Agree-sym, Agree-trans, times_zero}
use Rattle.equation_roots.specs.{Coefficients.{Dense, at, times_all, times_linear, value, worth}, Factorings.{AreRising, IsAboveZero, IsFactoring, IsPair, IsRest, Rest, HasRadicandBelow, dense_of, lower, nothing, pair, rootless}}
use Rattle.equation_roots.proofs.{CommonFactors.{common_not_zero}, Completeness.{above_not_zero, among, other_factor, pair_gone, rest_not_zero}, Formula.{above, difference_back, pair_product, pair_sum}, Products.{mixed, worth_same}, Rootless.{no_root}}
use Rattle.equation_roots.proofs.{Values.{at_linear, at_scaled, swap_factors, value_linear, value_scaled}, Vieta.{negative_twice}, Wide.{times_comm_int, times_zero_int}, Worths.{worth_value}}

-- ---- multiples

-- the coefficients of p are those of w times one fraction other than 0
pub record Proportional (p w : Dense) : Type 0 where
  pub factor : Fraction
  pub not_zero : factor ≢ zero_fraction
  pub each : (k : ℕ) → at k p ≡ times factor (at k w)

at_above : (k : ℕ) (p : Dense) → length p ≤ k → at k p ≡ zero_fraction
at_above k [] h = refl
at_above zero (q ∷ p) h = absurd (omega (arith, h))
at_above (suc k) (q ∷ p) h = at_above k p (omega (arith, h))

plus_cancel : (x y z : Fraction) → plus x y ≡ plus z y → x ≡ z
plus_cancel x y z e =
    sym (plus_zero x) ∙ ap (plus x) (sym (plus_negative y)) ∙ sym (plus_assoc x y (negative y)) ∙ ap (λ u. plus u (negative y)) e ∙ plus_assoc z y (negative y)
    ∙ ap (plus z) (plus_negative y) ∙ plus_zero z

module _ (q l : Fraction) (a b : Dense) (each : (k : ℕ) → at k (times_linear q a) ≡ times l (at k (times_linear q b))) where
  step : (k : ℕ) → at (suc k) a ≡ times l (at (suc k) b) → at k a ≡ times l (at k b)
  step k e =
      plus_cancel (at k a) (times (negative q) (at (suc k) a)) (times l (at k b))
      (sym (at_linear q a (suc k)) ∙ each (suc k) ∙ ap (times l) (at_linear q b (suc k)) ∙ times_plus l (at k b) (times (negative q) (at (suc k) b))
      ∙ plus_both refl (swap_factors l (negative q) (at (suc k) b) ∙ ap (times (negative q)) (sym e)))

  down : (n k : ℕ) → length a + length b ≤ k + n → at k a ≡ times l (at k b)
  down zero k h = at_above k a (omega (arith, h)) ∙ sym (ap (times l) (at_above k b (omega (arith, h))) ∙ times_zero l)
  down (suc n) k h = step k (down n (suc k) (omega (arith, h)))

cancelled : (q : Fraction) (a b : Dense) → Proportional (times_linear q a) (times_linear q b) → Proportional a b
cancelled q a b h = record { factor = h.factor; not_zero = h.not_zero; each = λ k. down q h.factor a b h.each (length a + length b) k (omega arith) }

proportional_value : (p w : Dense) (r : Fraction) (h : Proportional p w) → value p r ≡ times h.factor (value w r)
proportional_value p w r h =
    surd_of_one (value p r) (value (map (times h.factor) w) r)
    (Agree-trans (Agree-sym (worth_value p r)) (Agree-trans (worth_same p (map (times h.factor) w) (surd_of r) (record { each = λ k. h.each k ∙ sym (at_scaled h.factor w k) })) (worth_value (map (times h.factor) w) r)))
    ∙ value_scaled h.factor w r

-- ---- the order of fractions

times_suc : (x : ℤ) (n : ℕ) → x *ℤ pos (suc n) ≡ x *ℤ pos n +ℤ x
times_suc x n = rw (parts x) (simp diffs (eq_diff _ _ _ _ (omega arith)))

grows : (x y : ℤ) (n : ℕ) → x ≤ℤ y → (x *ℤ pos n) ≤ℤ (y *ℤ pos n)
grows x y zero h = omega (arith, ints, times_zero_int x, times_zero_int y)
grows x y (suc n) h = omega (arith, ints, times_suc x n, times_suc y n, grows x y n h, h)

grows_more : (x y : ℤ) (n : ℕ) → 0 < n → x <ℤ y → (x *ℤ pos n) <ℤ (y *ℤ pos n)
grows_more x y zero p h = absurd (omega (arith, p))
grows_more x y (suc n) p h = omega (arith, ints, times_suc x n, times_suc y n, grows x y n (omega (arith, ints, h)), h)

less_is : (x y : ℤ) → int_cmp x y ≡ Less → x <ℤ y
less_is x y e = subst (λ o. MatchOrdering o (x <ℤ y) (x ≡ y) (y <ℤ x)) e (int_ranks x y)

not_less_of : (x y : ℤ) (o : Ordering) → MatchOrdering o (x <ℤ y) (x ≡ y) (y <ℤ x) → o ≢ Less → y ≤ℤ x
not_less_of x y Less m h = absurd (h refl)
not_less_of x y Equal m h = omega (arith, ints, m)
not_less_of x y Greater m h = omega (arith, ints, m)

not_less_is : (x y : ℤ) → int_cmp x y ≢ Less → y ≤ℤ x
not_less_is x y h = not_less_of x y (int_cmp x y) (int_ranks x y) h

swapped : (x : ℤ) (m n : ℕ) → (x *ℤ pos m) *ℤ pos n ≡ (x *ℤ pos n) *ℤ pos m
swapped x m n = rw (parts x) (simp diffs (eq_diff _ _ _ _ (omega arith)))

-- a at most c and c at most e, as cross products
between : (a c e : ℤ) (p q r : ℕ) → 0 < q → (a *ℤ pos q) ≤ℤ (c *ℤ pos p) → (c *ℤ pos r) ≤ℤ (e *ℤ pos q) → (e *ℤ pos p) <ℤ (a *ℤ pos r) → ⊥
between a c e p q r h one two three =
    let x = grows (a *ℤ pos q) (c *ℤ pos p) r one in
    let y = grows (c *ℤ pos r) (e *ℤ pos q) p two in
    let z = grows_more (e *ℤ pos p) (a *ℤ pos r) q h three in
    by _ _ _ _ _ _ (swapped a q r) (swapped c p r) (swapped e q p) x y z
  where
    by : (aq_r ar_q cp_r cr_p eq_p ep_q : ℤ) → aq_r ≡ ar_q → cp_r ≡ cr_p → eq_p ≡ ep_q → aq_r ≤ℤ cp_r → cr_p ≤ℤ eq_p → ep_q <ℤ ar_q → ⊥
    by s t u v w x e f g h k l = omega (arith, ints, e, f, g, h, k, l)

not_less_trans : (a c e : Fraction) → fraction_cmp c a ≢ Less → fraction_cmp e c ≢ Less → fraction_cmp e a ≢ Less
not_less_trans a c e f g l =
    between a.num c.num e.num a.den c.den e.den (den_pos c) (not_less_is (c.num *ℤ pos a.den) (a.num *ℤ pos c.den) f) (not_less_is (e.num *ℤ pos c.den) (c.num *ℤ pos e.den) g)
    (less_is (e.num *ℤ pos a.den) (a.num *ℤ pos e.den) l)

not_less_itself : (a : Fraction) → fraction_cmp a a ≢ Less
not_less_itself a l = let h = less_is (a.num *ℤ pos a.den) (a.num *ℤ pos a.den) l in omega (arith, ints, h)

both_not_less : (a b : Fraction) → fraction_cmp a b ≢ Less → fraction_cmp b a ≢ Less → a ≡ b
both_not_less a b f g =
    same_fraction a b (by _ _ (not_less_is (a.num *ℤ pos b.den) (b.num *ℤ pos a.den) f) (not_less_is (b.num *ℤ pos a.den) (a.num *ℤ pos b.den) g))
  where
    by : (x y : ℤ) → y ≤ℤ x → x ≤ℤ y → x ≡ y
    by x y h k = omega (arith, ints, h, k)

later_not_less : (q y x : Fraction) (ys : List Fraction) → fraction_cmp y q ≢ Less → (y ≡ x) ⊎ Contains ys x → (Contains ys x → fraction_cmp x y ≢ Less) → fraction_cmp x q ≢ Less
later_not_less q y x ys h (inl e) f = subst (λ z. fraction_cmp z q ≢ Less) e h
later_not_less q y x ys h (inr k) f = not_less_trans q y x h (f k)

least : (q x : Fraction) (qs : List Fraction) → AreRising (q ∷ qs) → Contains qs x → fraction_cmp x q ≢ Less
least q x [] r h = absurd (none_in h)
least q x (y ∷ ys) r h = later_not_less q y x ys r.0 (at_front y ys x h) (λ k. least y x ys r.1 k)

first_is_least : (q x : Fraction) (qs : List Fraction) → AreRising (q ∷ qs) → Contains (q ∷ qs) x → fraction_cmp x q ≢ Less
first_is_least q x qs r h = by (at_front q qs x h)
  where
    by : (q ≡ x) ⊎ Contains qs x → fraction_cmp x q ≢ Less
    by (inl e) = subst (λ z. fraction_cmp z q ≢ Less) e (not_less_itself q)
    by (inr k) = least q x qs r k

others_rise : (q : Fraction) (qs : List Fraction) → AreRising (q ∷ qs) → AreRising qs
others_rise q [] r = tt
others_rise q (x ∷ xs) r = r.1

-- ---- the same rational roots

first_is_root : (q : Fraction) (qs : List Fraction) (d : Dense) → value (times_all (q ∷ qs) d) q ≡ zero_fraction
first_is_root q qs d = value_linear q (times_all qs d) q ∙ ap (λ x. times x (value (times_all qs d) q)) (plus_negative q) ∙ zero_times (value (times_all qs d) q)

abbrev HasNoRational : Dense → Type 0
HasNoRational d = (r : Fraction) → value d r ≢ zero_fraction

same_first : (q r : Fraction) (qs rs : List Fraction) (d e : Dense) → HasNoRational d → HasNoRational e → AreRising (q ∷ qs) → AreRising (r ∷ rs) → Proportional (times_all (q ∷ qs) d) (times_all (r ∷ rs) e) → q ≡ r
same_first q r qs rs d e nd ne hq hr h =
    both_not_less q r
    (first_is_least r q rs hr (among (r ∷ rs) e q (ne q) (other_factor h.factor (value (times_all (r ∷ rs) e) q) h.not_zero (sym (proportional_value (times_all (q ∷ qs) d) (times_all (r ∷ rs) e) q h) ∙ first_is_root q qs d))))
    (first_is_least q r qs hq (among (q ∷ qs) d r (nd r) (proportional_value (times_all (q ∷ qs) d) (times_all (r ∷ rs) e) r h ∙ ap (times h.factor) (first_is_root r rs e) ∙ times_zero h.factor)))

same_rationals : (qs rs : List Fraction) (d e : Dense) → HasNoRational d → HasNoRational e → AreRising qs → AreRising rs → Proportional (times_all qs d) (times_all rs e) → (qs ≡ rs) × Proportional d e
same_rationals [] [] d e nd ne hq hr h = (refl, h)
same_rationals [] (r ∷ rs) d e nd ne hq hr h =
    absurd (nd r (proportional_value d (times_all (r ∷ rs) e) r h ∙ ap (times h.factor) (first_is_root r rs e) ∙ times_zero h.factor))
same_rationals (q ∷ qs) [] d e nd ne hq hr h =
    absurd (ne q (other_factor h.factor (value e q) h.not_zero (sym (proportional_value (times_all (q ∷ qs) d) e q h) ∙ first_is_root q qs d)))
same_rationals (q ∷ qs) (r ∷ rs) d e nd ne hq hr h =
    let s = same_first q r qs rs d e nd ne hq hr h in
    let o = same_rationals qs rs d e nd ne (others_rise q qs hq) (others_rise r rs hr)
    (cancelled q (times_all qs d) (times_all rs e) (subst (λ x. Proportional (times_all (q ∷ qs) d) (times_linear x (times_all rs e))) (sym s) h)) in
    (λ i. s i ∷ o.0 i, o.1)

-- ---- the same rest

one_above : IsAboveZero one_fraction
unfolding one_fraction
one_above = (0, whole_numerator (pos 1))

sum_above : (a b : Fraction) → IsAboveZero a → IsAboveZero b → IsAboveZero (plus a b)
unfolding plus
sum_above a b (m, f) (n, g) =
    above (a.num *ℤ pos b.den +ℤ b.num *ℤ pos a.den) (a.den * b.den) (mul_pos a.den b.den (den_pos a) (den_pos b))
    (both (a.num *ℤ pos b.den) (b.num *ℤ pos a.den) (one a.num m b.den f (den_pos b)) (one b.num n a.den g (den_pos a)))
  where
    both : (x y : ℤ) → pos 0 <ℤ x → pos 0 <ℤ y → pos 0 <ℤ (x +ℤ y)
    both x y h k = omega (arith, ints, h, k)

    positive : (m : ℕ) → pos 0 <ℤ pos (suc m)
    positive m = omega (arith, ints)

    one : (x : ℤ) (m d : ℕ) → x ≡ pos (suc m) → 0 < d → pos 0 <ℤ (x *ℤ pos d)
    one x m d e h = subst (λ z. z <ℤ (x *ℤ pos d)) (nothing d) (grows_more (pos 0) x d h (subst (λ (z : ℤ). pos 0 <ℤ z) (sym e) (positive m)))
      where
        nothing : (d : ℕ) → pos 0 *ℤ pos d ≡ pos 0
        nothing d = times_comm_int (pos 0) (pos d) ∙ times_zero_int (pos d)

halved : (x y : Fraction) → plus x x ≡ plus y y → x ≡ y
halved x y e = same_from_difference x y (other_factor (plus one_fraction one_fraction) (plus x (negative y)) (above_not_zero (plus one_fraction one_fraction) (sum_above one_fraction one_fraction one_above one_above)) twice)
  where
    gone : plus (plus x (negative y)) (plus x (negative y)) ≡ zero_fraction
    gone =
        mixed x (negative y) x (negative y) ∙ ap (λ u. plus u (plus (negative y) (negative y))) e ∙ mixed y y (negative y) (negative y) ∙ plus_both (plus_negative y) (plus_negative y)
        ∙ plus_zero zero_fraction

    twice : times (plus one_fraction one_fraction) (plus x (negative y)) ≡ zero_fraction
    twice =
        times_comm (plus one_fraction one_fraction) (plus x (negative y)) ∙ times_plus (plus x (negative y)) one_fraction one_fraction
        ∙ plus_both (times_one (plus x (negative y))) (times_one (plus x (negative y))) ∙ gone

divided_out : (l x y : Fraction) → l ≢ zero_fraction → times l x ≡ times l y → x ≡ y
divided_out l x y n e = back x ∙ ap (times (inverse l)) e ∙ sym (back y)
  where
    back : (u : Fraction) → u ≡ times (inverse l) (times l u)
    back u = sym (one_times u) ∙ ap (λ v. times v u) (sym (inverse_times_itself l n)) ∙ times_assoc (inverse l) l u

same_square : (s r : Fraction) → IsAboveZero s → IsAboveZero r → times s s ≡ times r r → s ≡ r
same_square s r hs hr e = same_from_difference s r (other_factor (plus s r) (plus s (negative r)) (above_not_zero (plus s r) (sum_above s r hs hr)) nothing)
  where
    first : times (plus s r) s ≡ plus (times r r) (times r s)
    first = times_comm (plus s r) s ∙ times_plus s s r ∙ plus_both e (times_comm s r)

    second : times (plus s r) (negative r) ≡ negative (plus (times r r) (times r s))
    second = times_comm (plus s r) (negative r) ∙ negative_times r (plus s r) ∙ ap negative (times_plus r s r ∙ plus_comm (times r s) (times r r))

    nothing : times (plus s r) (plus s (negative r)) ≡ zero_fraction
    nothing = times_plus (plus s r) s (negative r) ∙ plus_both first second ∙ plus_negative (plus (times r r) (times r s))

-- m and s^2 t of a pair
pair_middle : (b c m s : Fraction) (t : ℕ) → IsPair b c m s t → plus m m ≡ negative b
pair_middle b c m s t p = sym (negative_twice (plus m m)) ∙ sym (surd_of_one (negative b) (negative (negative (plus m m))) (Agree-trans (Agree-sym (Same-Agree p.sum)) (Same-Agree (pair_sum m s t))))

pair_square : (b c m s : Fraction) (t : ℕ) → IsPair b c m s t → times (times s s) (whole_fraction (pos t)) ≡ plus (times m m) (negative c)
pair_square b c m s t p =
    sym (difference_back (times m m) (times (times s s) (whole_fraction (pos t))))
    ∙ ap (λ x. plus (times m m) (negative x)) (sym (surd_of_one c (plus (times m m) (negative (times (times s s) (whole_fraction (pos t))))) (Agree-trans (Agree-sym (Same-Agree p.product)) (Same-Agree (pair_product m s t)))))

same_radicand : (s r : Fraction) (t u : ℕ) → IsAboveZero s → IsClean t → IsClean u → 2 ≤ t → 2 ≤ u → t < 10 ^ 12 → u < 10 ^ 12
    → times (times s s) (whole_fraction (pos t)) ≡ times (times r r) (whole_fraction (pos u)) → t ≡ u
same_radicand s r t u hs ct cu lt lu st su e = by (are_alike t u) refl
  where
    by : (b : Bool) → are_alike t u ≡ b → t ≡ u
    by true f = alike_square_free t u f (clean_square_free t ct st) (clean_square_free u cu su)
    by false f =
        absurd (difference_not_zero s r t u (above_not_zero s hs) (omega (arith, lt)) (omega (arith, lu)) f
        (ap (λ x. plus x (negative (times (times r r) (whole_fraction (pos u))))) e ∙ plus_negative (times (times r r) (whole_fraction (pos u)))))

same_pair : (b c m s m' s' : Fraction) (t t' : ℕ) → IsPair b c m s t → IsPair b c m' s' t' → t < 10 ^ 12 → t' < 10 ^ 12 → pair b c m s t ≡ pair b c m' s' t'
same_pair b c m s m' s' t t' p p' l l' = λ i. pair b c (middles i) (sides i) (radicands i)
  where
    middles : m ≡ m'
    middles = halved m m' (pair_middle b c m s t p ∙ sym (pair_middle b c m' s' t' p'))

    squares : times (times s s) (whole_fraction (pos t)) ≡ times (times s' s') (whole_fraction (pos t'))
    squares = pair_square b c m s t p ∙ (λ i. plus (times (middles i) (middles i)) (negative c)) ∙ sym (pair_square b c m' s' t' p')

    radicands : t ≡ t'
    radicands = same_radicand s s' t t' p.order p.clean p'.clean p.irrational p'.irrational l l' squares

    sides : s ≡ s'
    sides =
        same_square s s' p.order p'.order
        (divided_out (whole_fraction (pos t)) (times s s) (times s' s') (common_not_zero t (omega (arith, p.irrational)))
        (times_comm (whole_fraction (pos t)) (times s s) ∙ squares ∙ ap (λ n. times (times s' s') (whole_fraction (pos n))) (sym radicands) ∙ times_comm (times s' s') (whole_fraction (pos t))))

module _ (x y z w : Fraction) (h : Proportional (x ∷ y ∷ one_fraction ∷ []) (z ∷ w ∷ one_fraction ∷ [])) where
  factor_is : h.factor ≡ one_fraction
  factor_is = sym (times_one h.factor) ∙ sym (h.each 2)

  same_constant : x ≡ z
  same_constant = h.each 0 ∙ ap (λ l. times l z) factor_is ∙ one_times z

  same_linear : y ≡ w
  same_linear = h.each 1 ∙ ap (λ l. times l w) factor_is ∙ one_times w

no_pair_root : (g c b d m s : Fraction) (t : ℕ) → IsRest (rootless g c) → IsPair b d m s t → c ≡ d → plus g g ≡ b → ⊥
no_pair_root g c b d m s t r p e f =
    no_root c g (lower m s t) r
    (subst (λ (x : Dense). Same (worth x (lower m s t)) []) (λ i. sym e i ∷ sym f i ∷ one_fraction ∷ []) (Agree-Same (pair_gone b d m s t (lower m s t) p (0, omega arith, refl))))

nothing_is_less : (l : Fraction) → zero_fraction ≡ times l one_fraction → l ≡ zero_fraction
nothing_is_less l e = sym (times_one l) ∙ sym e

same_rest : (rest other : Rest) → IsRest rest → IsRest other → HasRadicandBelow (10 ^ 12) rest → HasRadicandBelow (10 ^ 12) other → Proportional (dense_of rest) (dense_of other) → rest ≡ other
same_rest nothing nothing r o l k h = refl
same_rest nothing (rootless g c) r o l k h = absurd (h.not_zero (nothing_is_less h.factor (h.each 2)))
same_rest nothing (pair b c m s t) r o l k h = absurd (h.not_zero (nothing_is_less h.factor (h.each 2)))
same_rest (rootless g c) nothing r o l k h = absurd (zero_is_not_one (sym (h.each 2 ∙ times_zero h.factor)))
same_rest (pair b c m s t) nothing r o l k h = absurd (zero_is_not_one (sym (h.each 2 ∙ times_zero h.factor)))
same_rest (rootless g c) (rootless f d) r o l k h = let x = halved g f (same_linear c (plus g g) d (plus f f) h) in let y = same_constant c (plus g g) d (plus f f) h in λ i. rootless (x i) (y i)
same_rest (rootless g c) (pair b d m s t) r o l k h = absurd (no_pair_root g c b d m s t r o (same_constant c (plus g g) d b h) (same_linear c (plus g g) d b h))
same_rest (pair b c m s t) (rootless g d) r o l k h = absurd (no_pair_root g d b c m s t o r (sym (same_constant c b d (plus g g) h)) (sym (same_linear c b d (plus g g) h)))
same_rest (pair b c m s t) (pair b' c' m' s' t') r o l k h =
    let x = same_linear c b c' b' h in
    let y = same_constant c b c' b' h in
    (λ i. pair (x i) (y i) m s t) ∙ same_pair b' c' m s m' s' t t' (subst (λ z. IsPair z c' m s t) x (subst (λ z. IsPair b z m s t) y r)) o l k

-- ---- the same factoring

proportional_factors : (p w : Dense) (l : Fraction) (qs rs : List Fraction) (rest other : Rest) → l ≢ zero_fraction → ((k : ℕ) → at k w ≡ times l (at k p)) → IsFactoring p qs rest → IsFactoring w rs other
    → Proportional (times_all qs (dense_of rest)) (times_all rs (dense_of other))
proportional_factors p w l qs rs rest other n e f g = record {
  factor = times (inverse (times l f.lead)) g.lead;
  not_zero = product_not_zero (inverse (times l f.lead)) g.lead inverse_not_zero g.not_zero;
  each = λ k. back (at k (times_all qs (dense_of rest))) ∙ ap (times (inverse (times l f.lead))) (times_assoc l f.lead (at k (times_all qs (dense_of rest))) ∙ ap (times l) (sym (f.equal k)) ∙ sym (e k) ∙ g.equal k)
      ∙ sym (times_assoc (inverse (times l f.lead)) g.lead (at k (times_all rs (dense_of other))));
}
  where
    not_zero : times l f.lead ≢ zero_fraction
    not_zero = product_not_zero l f.lead n f.not_zero

    inverse_not_zero : inverse (times l f.lead) ≢ zero_fraction
    inverse_not_zero z = zero_is_not_one (sym (zero_times (times l f.lead)) ∙ ap (λ x. times x (times l f.lead)) (sym z) ∙ inverse_times_itself (times l f.lead) not_zero)

    back : (u : Fraction) → u ≡ times (inverse (times l f.lead)) (times (times l f.lead) u)
    back u = sym (one_times u) ∙ ap (λ v. times v u) (sym (inverse_times_itself (times l f.lead) not_zero)) ∙ times_assoc (inverse (times l f.lead)) (times l f.lead) u

pub one_factoring : (p w : Dense) (l : Fraction) (qs rs : List Fraction) (rest other : Rest) → l ≢ zero_fraction → ((k : ℕ) → at k w ≡ times l (at k p)) → IsFactoring p qs rest → IsFactoring w rs other
    → HasRadicandBelow (10 ^ 12) rest → HasRadicandBelow (10 ^ 12) other → (qs ≡ rs) × (rest ≡ other)
one_factoring p w l qs rs rest other n e f g h k =
    let s = same_rationals qs rs (dense_of rest) (dense_of other) (λ r. rest_not_zero rest r f.left) (λ r. rest_not_zero other r g.left) f.rising g.rising (proportional_factors p w l qs rs rest other n e f g) in
    (s.0, same_rest rest other f.left g.left h k s.1)
