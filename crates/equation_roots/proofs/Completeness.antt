-- Told roots are roots, and each rational root is told.
use Rattle.std.proofs.Common.{◌≡◌, ◌≢◌, ◌⊎◌, inl, inr, ℕ, suc, ◌<◌, ◌≤◌, ◌*◌, pos, Bool, true, false, not, List, [], ◌∷◌, map, length, Contains, refl, sym, ap, ◌∙◌, subst, arith}
use Rattle.calc_terms.specs.FractionLaws.{plus_negative}
use Rattle.calc_terms.specs.Fractions.{Fraction, plus, times, negative, zero_fraction, one_fraction, is_zero_fraction}
use Rattle.calc_terms.specs.Integers.{int_is_zero}
use Rattle.calc_terms.proofs.{FractionFacts.{no_zero, zero_is}, SmallFractions.{plus_zero}, SmallLaws.{negative_not_zero, plus_both, zero_is_zero}}
use Rattle.calc_algebra.specs.{Clean.{IsClean}, SquareClasses.{Inverts, Same, are_alike, class_coefficient}, Surds.{Surd, term, surd_of, surd_scale, surd_times}}
use Rattle.calc_algebra.proofs.InverseLaws.{Inverts-Same, Inverts-not_zero, Inverts-surd_times, inverse_of_terms, product_not_zero, same_from_difference, terms_have_inverse, zero_is_not_one}
use Rattle.calc_algebra.proofs.{MeaningLaws.{at_front, none_in}, NumberClasses.{one_apart_from_clean}, SquareClassLaws.{Same-Agree, Same-refl, Same-sym, Same-trans}, TermLaws.{Same-append, Same-append_comm, joined_radicand}}
use Rattle.calc_algebra.proofs.SurdLaws.{Agree, Agree-Same, Agree-eq, Agree-sym, Agree-trans, Agree-surd_scale, Agree-surd_times_right, class_coefficient-append, class_coefficient-surd_scale, surd_times_comm, surd_times-nil, times_zero}
use Rattle.equation_roots.specs.{Coefficients.{Dense, times_all, value, worth}, Factorings.{IsAboveZero, IsFactoring, IsPair, IsRest, Rest, dense_of, less, lower, nothing, pair, product_at, rootless, roots_of, surds_of, upper}}
use Rattle.equation_roots.proofs.{Products.{factored_agree, worth_same}, Rootless.{no_root}, Values.{at_scaled, value_linear, value_scaled}, Vieta.{linear_factors, negative_is}, Worths.{value_is_zero, worth_is_zero}}

-- ---- products with a factor that is 0

difference_gone : (v : Surd) → Agree (less v v) []
difference_gone v = record {
  at = λ s.
      class_coefficient-append v (surd_scale (negative one_fraction) v) s
      ∙ plus_both refl (class_coefficient-surd_scale (negative one_fraction) v s ∙ negative_is (class_coefficient v s)) ∙ plus_negative (class_coefficient v s);
}

zero_right : (u : Surd) {w : Surd} → Agree w [] → Agree (surd_times u w) []
zero_right u a = Agree-trans (Agree-surd_times_right u a) (Agree-eq (surd_times-nil u))

zero_left : {u : Surd} (w : Surd) → Agree u [] → Agree (surd_times u w) []
zero_left {u} w a = Agree-trans (surd_times_comm u w) (zero_right w a)

-- ---- told roots are roots

pub pair_gone : (b c m s : Fraction) (t : ℕ) (v : Surd) → IsPair b c m s t → Contains (lower m s t ∷ upper m s t ∷ []) v → Agree (worth (dense_of (pair b c m s t)) v) []
pair_gone b c m s t v p h = Agree-trans (Same-Agree (linear_factors b c m s t v p)) (first (at_front (lower m s t) (upper m s t ∷ []) v h))
  where
    second : (upper m s t ≡ v) ⊎ Contains [] v → Agree (surd_times (less v (lower m s t)) (less v (upper m s t))) []
    second (inl e) = zero_right (less v (lower m s t)) (subst (λ x. Agree (less v x) []) (sym e) (difference_gone v))
    second (inr k) = absurd (none_in k)

    first : (lower m s t ≡ v) ⊎ Contains (upper m s t ∷ []) v → Agree (surd_times (less v (lower m s t)) (less v (upper m s t))) []
    first (inl e) = zero_left (less v (upper m s t)) (subst (λ x. Agree (less v x) []) (sym e) (difference_gone v))
    first (inr k) = second (at_front (upper m s t) [] v k)

rest_gone : (rest : Rest) (v : Surd) → IsRest rest → Contains (surds_of rest) v → Agree (worth (dense_of rest) v) []
rest_gone nothing v r h = absurd (none_in h)
rest_gone (rootless g c) v r h = absurd (none_in h)
rest_gone (pair b c m s t) v r h = pair_gone b c m s t v r h

gone_either : (q : Fraction) (qs : List Fraction) (rest : Rest) (v : Surd) → (surd_of q ≡ v) ⊎ Contains (roots_of qs rest) v
    → (Contains (roots_of qs rest) v → Agree (product_at qs v (worth (dense_of rest) v)) []) → Agree (product_at (q ∷ qs) v (worth (dense_of rest) v)) []
gone_either q qs rest v (inl e) f = zero_left (product_at qs v (worth (dense_of rest) v)) (subst (λ x. Agree (less v x) []) (sym e) (difference_gone v))
gone_either q qs rest v (inr k) f = zero_right (less v (surd_of q)) (f k)

product_gone : (qs : List Fraction) (rest : Rest) (v : Surd) → IsRest rest → Contains (roots_of qs rest) v → Agree (product_at qs v (worth (dense_of rest) v)) []
product_gone [] rest v r h = rest_gone rest v r h
product_gone (q ∷ qs) rest v r h = gone_either q qs rest v (at_front (surd_of q) (roots_of qs rest) v h) (λ k. product_gone qs rest v r k)

pub told_solves : (p : Dense) (qs : List Fraction) (rest : Rest) (v : Surd) → IsFactoring p qs rest → Contains (roots_of qs rest) v → Same (worth p v) []
told_solves p qs rest v f h = Agree-Same (Agree-trans (factored_agree p qs rest v f) (Agree-surd_scale f.lead (product_gone qs rest v f.left h)))

-- ---- no rational makes a pair 0

pub above_not_zero : (s : Fraction) → IsAboveZero s → s ≢ zero_fraction
above_not_zero s (n, h) e = let z : is_zero_fraction s ≡ true = ap is_zero_fraction e ∙ zero_is_zero in let f : int_is_zero (pos (suc n)) ≡ true = ap int_is_zero (sym h) ∙ z in cc

minus_one_not_zero : negative one_fraction ≢ zero_fraction
minus_one_not_zero = negative_not_zero one_fraction (λ e. zero_is_not_one (sym e))

clean_apart_from_one : (t : ℕ) → 2 ≤ t → IsClean t → are_alike t 1 ≡ false
clean_apart_from_one t l c = turned (omega arith) ∙ one_apart_from_clean t l c
  where
    turned : t * 1 ≡ 1 * t → are_alike t 1 ≡ are_alike 1 t
    turned e = alike e
      where
        alike : t * 1 ≡ 1 * t → are_alike t 1 ≡ are_alike 1 t
        alike e = rw e refl

-- r + m + c√t has an inverse
side_inverse : (r m c : Fraction) (t : ℕ) → c ≢ zero_fraction → IsClean t → 2 ≤ t → (y : Surd) × Inverts y (term r 1 ∷ term m 1 ∷ term c t ∷ [])
side_inverse r m c t n clean l = (
  inverse_of_terms c t (plus r m) 1,
  Inverts-Same (Same-refl (inverse_of_terms c t (plus r m) 1))
      (Same-trans (Same-append_comm (term c t ∷ []) (term (plus r m) 1 ∷ [])) (Same-append {v = term (plus r m) 1 ∷ []} {v' = term r 1 ∷ term m 1 ∷ []} (Same-sym (joined_radicand r m 1)) (Same-refl (term c t ∷ []))))
      (terms_have_inverse c (plus r m) t 1 n (omega (arith, l)) (omega arith) (clean_apart_from_one t l clean)),
)

pair_not_zero : (b c m s : Fraction) (t : ℕ) (r : Fraction) → IsPair b c m s t → value (dense_of (pair b c m s t)) r ≢ zero_fraction
pair_not_zero b c m s t r p e =
    let n = above_not_zero s p.order in
    let first = side_inverse r (times (negative one_fraction) m) (times (negative one_fraction) (negative s)) t (product_not_zero (negative one_fraction) (negative s) minus_one_not_zero (negative_not_zero s n)) p.clean p.irrational in
    let second = side_inverse r (times (negative one_fraction) m) (times (negative one_fraction) s) t (product_not_zero (negative one_fraction) s minus_one_not_zero n) p.clean p.irrational in
    Inverts-not_zero (surd_times first.0 second.0) (surd_times (less (surd_of r) (lower m s t)) (less (surd_of r) (upper m s t)))
    (Inverts-surd_times first.0 (less (surd_of r) (lower m s t)) second.0 (less (surd_of r) (upper m s t)) first.1 second.1)
    (Same-trans (Same-sym (linear_factors b c m s t (surd_of r) p)) (worth_is_zero (dense_of (pair b c m s t)) r e))

pub rest_not_zero : (rest : Rest) (r : Fraction) → IsRest rest → value (dense_of rest) r ≢ zero_fraction
rest_not_zero nothing r h e = zero_is_not_one (sym e ∙ ap (plus one_fraction) (times_zero r) ∙ plus_zero one_fraction)
rest_not_zero (rootless g c) r h e = no_root c g (surd_of r) h (worth_is_zero (dense_of (rootless g c)) r e)
rest_not_zero (pair b c m s t) r h e = pair_not_zero b c m s t r h e

-- ---- rational roots are told

zero_or_not : (x : Fraction) → (x ≡ zero_fraction) ⊎ (x ≢ zero_fraction)
zero_or_not x = by (is_zero_fraction x) refl
  where
    by : (b : Bool) → is_zero_fraction x ≡ b → (x ≡ zero_fraction) ⊎ (x ≢ zero_fraction)
    by true e = inl (zero_is x e)
    by false e = inr (no_zero x (ap not e))

pub other_factor : (l x : Fraction) → l ≢ zero_fraction → times l x ≡ zero_fraction → x ≡ zero_fraction
other_factor l x n e = by (zero_or_not x)
  where
    by : (x ≡ zero_fraction) ⊎ (x ≢ zero_fraction) → x ≡ zero_fraction
    by (inl z) = z
    by (inr m) = absurd (product_not_zero l x n m e)

here : (q r : Fraction) (qs : List Fraction) → r ≡ q → Contains (q ∷ qs) r
here q r qs e = (0, omega arith, sym e)

later : (q r : Fraction) (qs : List Fraction) → Contains qs r → Contains (q ∷ qs) r
later q r qs c = let h : c.0 < length qs = c.1 in (suc c.0, omega arith, c.2)

among_either : (q : Fraction) (qs : List Fraction) (d : Dense) (r : Fraction) → (plus r (negative q) ≡ zero_fraction) ⊎ (plus r (negative q) ≢ zero_fraction)
    → (value (times_all qs d) r ≡ zero_fraction → Contains qs r) → value (times_all (q ∷ qs) d) r ≡ zero_fraction → Contains (q ∷ qs) r
among_either q qs d r (inl z) f e = here q r qs (same_from_difference r q z)
among_either q qs d r (inr m) f e = later q r qs (f (other_factor (plus r (negative q)) (value (times_all qs d) r) m (sym (value_linear q (times_all qs d) r) ∙ e)))

pub among : (qs : List Fraction) (d : Dense) (r : Fraction) → value d r ≢ zero_fraction → value (times_all qs d) r ≡ zero_fraction → Contains qs r
among [] d r n e = absurd (n e)
among (q ∷ qs) d r n e = among_either q qs d r (zero_or_not (plus r (negative q))) (λ z. among qs d r n z) e

pub rational_is_told : (p : Dense) (qs : List Fraction) (rest : Rest) (r : Fraction) → IsFactoring p qs rest → Same (worth p (surd_of r)) [] → Contains qs r
rational_is_told p qs rest r f h =
    among qs (dense_of rest) r (rest_not_zero rest r f.left)
    (other_factor f.lead (value (times_all qs (dense_of rest)) r) f.not_zero
    (sym (value_scaled f.lead (times_all qs (dense_of rest)) r) ∙ value_is_zero (map (times f.lead) (times_all qs (dense_of rest))) r (Agree-Same (Agree-trans (Agree-sym made) (Same-Agree h)))))
  where
    made : Agree (worth p (surd_of r)) (worth (map (times f.lead) (times_all qs (dense_of rest))) (surd_of r))
    made = worth_same p (map (times f.lead) (times_all qs (dense_of rest))) (surd_of r) (record { each = λ k. f.equal k ∙ sym (at_scaled f.lead (times_all qs (dense_of rest)) k) })
