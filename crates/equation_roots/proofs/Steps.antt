-- Linear factors taken out.
use Rattle.std.proofs.lemmas.Int.{ints}
use Rattle.std.proofs.Common.{◌≡◌, ◌≢◌, ℕ, zero, suc, ◌+◌, ◌<◌, ℤ, pos, ◌*ℤ◌, ◌+ℤ◌, ◌<ℤ◌, negsuc, neg_ℤ, List, ◌∷◌, ◌++◌, map, length, refl, sym, ap, ◌∙◌, subst, arith, length-append}
use Rattle.calc_terms.specs.{FractionLaws.{one_times, times_assoc, plus_negative, zero_times, zero_plus}, Fractions.{Fraction, plus, times, negative, zero_fraction, one_fraction, lowest, whole_fraction}}
use Rattle.calc_terms.proofs.{SmallFractions.{plus_zero}}
use Rattle.calc_algebra.proofs.{InverseLaws.{product_not_zero, zero_is_not_one}, SurdLaws.{times_zero}}
use Rattle.equation_roots.specs.{Coefficients.{Dense, at, before, times_all, times_linear, value}, Rationals.{IsInserted}, Wholes.{Divides, fractions, linear_product, leading}}
use Rattle.equation_roots.proofs.{Linear.{leading-cons, length-linear, leading-linear, linear_fractions}, RootQuotients.{zero_above}, Values.{SameDense, all_same, all_scaled, all_with, at_linear, at_scaled, same_sym, same_trans, value_linear, value_scaled}, Wide.{times_zero_int}}

pub product_positive : (v : ℕ) (z : ℤ) → pos 0 <ℤ (pos v *ℤ z) → pos 0 <ℤ z
product_positive v (pos zero) h = absurd (omega (arith, ints, h))
product_positive v (pos (suc n)) h = omega (arith, ints)
product_positive v (negsuc n) h = absurd (omega (arith, ints, h))

pub divides_refl : (found : List Fraction) (left : List ℤ) → Divides found left found left
divides_refl found left = record {
  lead = one_fraction;
  not_zero = λ e. zero_is_not_one (sym e);
  equal = λ k. sym (one_times (at k (times_all found (fractions left))));
  roots = λ r e. e;
  count = refl;
  shorter = omega arith;
  positive = λ h. h;
}

pub divides_trans : (f g h : List Fraction) (v w x : List ℤ) → Divides f v g w → Divides g w h x → Divides f v h x
divides_trans f g h v w x a b = record {
  lead = times a.lead b.lead;
  not_zero = product_not_zero a.lead b.lead a.not_zero b.not_zero;
  equal = λ k. a.equal k ∙ ap (times a.lead) (b.equal k) ∙ sym (times_assoc a.lead b.lead (at k (times_all h (fractions x))));
  roots = λ r e. a.roots r (b.roots r e);
  count = a.count ∙ b.count;
  shorter = omega (arith, a.shorter, b.shorter);
  positive = λ p. b.positive (a.positive p);
}

pub inserted : (q : Fraction) (xs ys : List Fraction) (p : Dense) → IsInserted q xs ys → SameDense (times_all ys p) (times_all xs (times_linear q p))
inserted q xs ys p i =
    subst (λ zs. SameDense (times_all zs p) (times_all xs (times_linear q p))) (sym i.after)
    (subst (λ zs. SameDense (times_all (i.front ++ q ∷ i.back) p) (times_all zs (times_linear q p))) (sym i.before) (all_with i.front q i.back p))

inserted_length : (q : Fraction) (xs ys : List Fraction) → IsInserted q xs ys → length ys ≡ length xs + 1
inserted_length q xs ys i = omega (arith, ap length i.before, ap length i.after, length-append i.front i.back, length-append i.front (q ∷ i.back))

whole_not_zero : (v : ℕ) → 0 < v → whole_fraction (pos v) ≢ zero_fraction
whole_not_zero v h e = let z : pos v ≡ pos 0 = zero_above (pos v) 1 (omega arith) e in absurd (off v h z)
  where
    off : (v : ℕ) → 0 < v → pos v ≡ pos 0 → ⊥
    off zero h e = omega (arith, h)
    off (suc v) h e = cc

pub divided_step : (found found' : List Fraction) (left qs : List ℤ) (u : ℤ) (v : ℕ) → 0 < v → 0 < length qs → linear_product (pos v) (neg_ℤ u) (pos 0) qs (pos 0) ≡ left
    → IsInserted (lowest u v) found found' → Divides found left found' qs
divided_step found found' left qs u v h l e i = record {
  lead = whole_fraction (pos v);
  not_zero = whole_not_zero v h;
  equal = λ k. ap (λ p. at k (times_all found p)) made ∙ (all_scaled found V (times_linear q p)).each k ∙ at_scaled V (times_all found (times_linear q p)) k ∙ ap (times V) (sym ((inserted q found found' p i).each k));
  roots = λ r z. ap (λ p. value p r) made ∙ value_scaled V (times_linear q p) r ∙ ap (times V) (value_linear q p r ∙ ap (times (plus r (negative q))) z ∙ times_zero (plus r (negative q))) ∙ times_zero V;
  count = omega (arith, sym e_length, inserted_length q found found' i);
  shorter = omega (arith, e_length);
  positive = λ g. product_positive v (leading qs) (subst (λ z. pos 0 <ℤ z) led g);
}
  where
    led : leading left ≡ pos v *ℤ leading qs
    led = ap leading (sym e) ∙ leading-linear (pos v) (neg_ℤ u) (pos 0) qs (pos 0) ∙ ap (λ z. pos v *ℤ leading (pos 0 ∷ qs) +ℤ z) (times_zero_int (neg_ℤ u)) ∙ plus_none (pos v *ℤ leading (pos 0 ∷ qs)) ∙ ap (λ z. pos v *ℤ z) (leading-cons (pos 0) qs l)
      where
        plus_none : (z : ℤ) → z +ℤ pos 0 ≡ z
        plus_none z = omega (arith, ints)

    V : Fraction
    V = whole_fraction (pos v)

    q : Fraction
    q = lowest u v

    p : Dense
    p = fractions qs

    made : fractions left ≡ map (times V) (times_linear q p)
    made = ap fractions (sym e) ∙ linear_fractions u v qs h

    e_length : length qs + 1 ≡ length left
    e_length = sym (length-linear (pos v) (neg_ℤ u) (pos 0) qs (pos 0)) ∙ ap length e

-- a constant that is 0
zero_factor : (p : Dense) → SameDense (zero_fraction ∷ p) (times_linear zero_fraction p)
zero_factor p = record { each = λ k. shifted p k ∙ sym (at_linear zero_fraction p k ∙ ap (plus (before k p)) (ap (λ z. times z (at k p)) negative_zero ∙ zero_times (at k p)) ∙ plus_zero (before k p)) }
  where
    shifted : (p : Dense) (k : ℕ) → at k (zero_fraction ∷ p) ≡ before k p
    shifted p zero = refl
    shifted p (suc k) = refl

    negative_zero : negative zero_fraction ≡ zero_fraction
    negative_zero = sym (zero_plus (negative zero_fraction)) ∙ plus_negative zero_fraction

pub zero_step : (found found' : List Fraction) (qs : List ℤ) → 0 < length qs → IsInserted zero_fraction found found' → Divides found (pos 0 ∷ qs) found' qs
unfolding zero_fraction
zero_step found found' qs l i = record {
  lead = one_fraction;
  not_zero = λ e. zero_is_not_one (sym e);
  equal = λ k. ((same_trans (all_same found (zero_factor (fractions qs))) (same_sym (inserted zero_fraction found found' (fractions qs) i))).each k) ∙ sym (one_times (at k (times_all found' (fractions qs))));
  roots = λ r z. zero_plus (times r (value (fractions qs) r)) ∙ ap (times r) z ∙ times_zero r;
  count = omega (arith, inserted_length zero_fraction found found' i);
  shorter = omega arith;
  positive = λ g. subst (λ z. pos 0 <ℤ z) (leading-cons (pos 0) qs l) g;
}
