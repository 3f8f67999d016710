-- The whole calculation of the roots, from its steps.
use Rattle.std.proofs.Common.{◌≡◌, ◌≢◌, ℕ, zero, suc, ◌/◌, ◌≤◌, ℤ, pos, negsuc, ◌<ℤ◌, nat_abs, List, [], ◌∷◌, map, length, sym, ap, ◌∙◌, arith}
use Rattle.std.proofs.lemmas.{Int.{ints}, List.{length-map}}
use Rattle.std.proofs.Math.Nat.{div-le_self}
use Rattle.calc_terms.specs.{FractionLaws.{times_assoc}, Fractions.{Fraction, lowest, over, times, whole_fraction, zero_fraction}, Gcd.{gcd}}
use Rattle.calc_algebra.proofs.InverseLaws.{product_not_zero}
use Rattle.equation_roots.specs.{Coefficients.{Dense, HasLeading, at, times_all, value}, Factorings.{AreRising, IsBeyond, IsFactoring, Rest, dense_of}, Squares.{Finishes}, Wholes.{Divides, IsMultiple, fractions, leading}}
use Rattle.equation_roots.proofs.{Finishing.{positive_not_zero}, Values.{all_scaled, at_scaled, value_scaled}, Wide.{abs_neg}, Worths.{value_is_zero}}

-- ---- lowest terms are no greater

over_at_most : (z : ℤ) (g : ℕ) → nat_abs (over z g) ≤ nat_abs z
over_at_most (pos n) g = div-le_self n g
over_at_most (negsuc n) g = let e = abs_neg (pos (suc n / g)) in omega (arith, e, div-le_self (suc n) g)

pub numerator_at_most : (u : ℤ) (v : ℕ) → nat_abs (lowest u v).num ≤ nat_abs u
unfolding lowest
numerator_at_most u zero = omega arith
numerator_at_most u (suc q) = over_at_most u (gcd (nat_abs u) (suc q))

pub denominator_at_most : (u : ℤ) (v : ℕ) → 1 ≤ v → (lowest u v).den ≤ v
unfolding lowest
denominator_at_most u zero h = absurd (omega (arith, h))
denominator_at_most u (suc q) h = div-le_self (suc q) (gcd (nat_abs u) (suc q))

-- ---- refused

has_leading : (l : Fraction) (m : List ℤ) → l ≢ zero_fraction → pos 0 <ℤ leading m → HasLeading (map (times l) (fractions m))
has_leading l [] n h = absurd (omega (arith, ints, h))
has_leading l (z ∷ []) n h = product_not_zero l (whole_fraction z) n (positive_not_zero z h)
has_leading l (z ∷ w ∷ ws) n h = has_leading l (w ∷ ws) n h

beyond_by : (p : Dense) (g : List Fraction) (m : List ℤ) (l : Fraction) → l ≢ zero_fraction → ((k : ℕ) → at k p ≡ times l (at k (times_all g (fractions m)))) → 4 ≤ length m → pos 0 <ℤ leading m
    → ((r : Fraction) → nat_abs r.num ≤ 1000 → r.den ≤ 1000 → value (fractions m) r ≢ zero_fraction) → IsBeyond p
beyond_by p g m l n e long positive none = record {
  found = g;
  left = map (times l) (fractions m);
  equal = λ k. e k ∙ sym (at_scaled l (times_all g (fractions m)) k) ∙ sym ((all_scaled g l (fractions m)).each k);
  degree = omega (arith, long, length-map (fractions m) (times l), length-map m whole_fraction);
  leading = has_leading l m n positive;
  none = λ u v within same.
      product_not_zero l (value (fractions m) (lowest u v)) n
      (none (lowest u v) (omega (arith, numerator_at_most u v, within.0)) (omega (arith, denominator_at_most u v within.1, within.2)))
      (sym (value_scaled l (fractions m) (lowest u v)) ∙ value_is_zero (map (times l) (fractions m)) (lowest u v) same);
}

pub is_beyond : (p : Dense) (zs : List ℤ) (g : List Fraction) (m : List ℤ) → IsMultiple p zs → Divides [] zs g m → 4 ≤ length m
    → ((r : Fraction) → nat_abs r.num ≤ 1000 → r.den ≤ 1000 → value (fractions m) r ≢ zero_fraction) → IsBeyond p
is_beyond p zs g m x d long none =
    beyond_by p g m (times x.factor d.lead) (product_not_zero x.factor d.lead x.not_zero d.not_zero)
    (λ k. x.equal k ∙ ap (times x.factor) (d.equal k) ∙ sym (times_assoc x.factor d.lead (at k (times_all g (fractions m))))) long (d.positive x.positive) none

-- ---- told

pub is_factoring : (p : Dense) (zs : List ℤ) (g h : List Fraction) (m : List ℤ) (rest : Rest) → IsMultiple p zs → Divides [] zs g m → Finishes g m h rest → AreRising h → IsFactoring p h rest
is_factoring p zs g h m rest x d f rising = record {
  lead = times (times x.factor d.lead) f.lead;
  not_zero = product_not_zero (times x.factor d.lead) f.lead (product_not_zero x.factor d.lead x.not_zero d.not_zero) f.not_zero;
  equal = λ k.
      x.equal k ∙ ap (times x.factor) (d.equal k ∙ ap (times d.lead) (f.equal k)) ∙ sym (times_assoc x.factor d.lead (times f.lead (at k (times_all h (dense_of rest)))))
      ∙ sym (times_assoc (times x.factor d.lead) f.lead (at k (times_all h (dense_of rest))));
  left = f.remains;
  rising = rising;
}
