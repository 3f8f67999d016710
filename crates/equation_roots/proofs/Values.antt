-- Coefficients and values of sums, multiples and products with X - q.
use Rattle.std.proofs.Common.{◌≡◌, ℕ, zero, suc, List, [], ◌∷◌, ◌++◌, map, refl, sym, ap, ◌∙◌}
use Rattle.calc_terms.specs.FractionLaws.{times_comm, times_assoc, times_plus, zero_plus}
use Rattle.calc_terms.specs.Fractions.{Fraction, plus, times, negative, zero_fraction, plus_assoc, plus_comm}
use Rattle.calc_terms.proofs.{SmallFractions.{plus_zero}, SmallLaws.{plus_both}}
use Rattle.calc_algebra.proofs.SurdLaws.{times_zero}
use Rattle.equation_roots.specs.Coefficients.{Dense, at, before, dense_plus, times_all, times_linear, value}

-- coefficient by coefficient
pub record SameDense (p w : Dense) : Type 0 where
  pub each : (k : ℕ) → at k p ≡ at k w

pub same_sym : {p w : Dense} → SameDense p w → SameDense w p
same_sym h = record { each = λ k. sym (h.each k) }

pub same_trans : {p w x : Dense} → SameDense p w → SameDense w x → SameDense p x
same_trans h g = record { each = λ k. h.each k ∙ g.each k }

pub at_scaled : (l : Fraction) (p : Dense) (k : ℕ) → at k (map (times l) p) ≡ times l (at k p)
at_scaled l [] k = sym (times_zero l)
at_scaled l (q ∷ p) zero = refl
at_scaled l (q ∷ p) (suc k) = at_scaled l p k

pub at_plus : (v w : Dense) (k : ℕ) → at k (dense_plus v w) ≡ plus (at k v) (at k w)
at_plus [] w k = sym (zero_plus (at k w))
at_plus (q ∷ v) [] k = sym (plus_zero (at k (q ∷ v)))
at_plus (q ∷ v) (r ∷ w) zero = refl
at_plus (q ∷ v) (r ∷ w) (suc k) = at_plus v w k

at_shifted : (p : Dense) (k : ℕ) → at k (zero_fraction ∷ p) ≡ before k p
at_shifted p zero = refl
at_shifted p (suc k) = refl

pub at_linear : (q : Fraction) (p : Dense) (k : ℕ) → at k (times_linear q p) ≡ plus (before k p) (times (negative q) (at k p))
at_linear q p k = at_plus (zero_fraction ∷ p) (map (times (negative q)) p) k ∙ plus_both (at_shifted p k) (at_scaled (negative q) p k)

before_same : {p w : Dense} → SameDense p w → (k : ℕ) → before k p ≡ before k w
before_same h zero = refl
before_same h (suc k) = h.each k

pub linear_same : (q : Fraction) {p w : Dense} → SameDense p w → SameDense (times_linear q p) (times_linear q w)
linear_same q {p} {w} h = record { each = λ k. at_linear q p k ∙ plus_both (before_same h k) (ap (times (negative q)) (h.each k)) ∙ sym (at_linear q w k) }

before_scaled : (l : Fraction) (p : Dense) (k : ℕ) → before k (map (times l) p) ≡ times l (before k p)
before_scaled l p zero = sym (times_zero l)
before_scaled l p (suc k) = at_scaled l p k

pub swap_factors : (a b c : Fraction) → times a (times b c) ≡ times b (times a c)
swap_factors a b c = sym (times_assoc a b c) ∙ ap (λ x. times x c) (times_comm a b) ∙ times_assoc b a c

pub linear_scaled : (q l : Fraction) (p : Dense) → SameDense (times_linear q (map (times l) p)) (map (times l) (times_linear q p))
linear_scaled q l p = record {
  each = λ k.
      at_linear q (map (times l) p) k ∙ plus_both (before_scaled l p k) (ap (times (negative q)) (at_scaled l p k) ∙ swap_factors (negative q) l (at k p))
      ∙ sym (at_scaled l (times_linear q p) k ∙ ap (times l) (at_linear q p k) ∙ times_plus l (before k p) (times (negative q) (at k p)));
}

before_linear : (q : Fraction) (p : Dense) (k : ℕ) → before k (times_linear q p) ≡ plus (before k (zero_fraction ∷ p)) (times (negative q) (before k p))
before_linear q p zero = sym (zero_plus (times (negative q) zero_fraction) ∙ times_zero (negative q))
before_linear q p (suc k) = at_linear q p k ∙ plus_both (sym (at_shifted p k)) refl

exchanged : (x y c d z : Fraction) → plus (plus x (times d y)) (times c (plus y (times d z))) ≡ plus (plus x (times c y)) (times d (plus y (times c z)))
exchanged x y c d z =
    plus_both refl (times_plus c y (times d z)) ∙ crossed x (times d y) (times c y) (times c (times d z)) ∙ plus_both refl (plus_both refl (swap_factors c d z) ∙ sym (times_plus d y (times c z)))
  where
    crossed : (x a b e : Fraction) → plus (plus x a) (plus b e) ≡ plus (plus x b) (plus a e)
    crossed x a b e = plus_assoc x a (plus b e) ∙ ap (plus x) (sym (plus_assoc a b e) ∙ ap (λ y. plus y e) (plus_comm a b) ∙ plus_assoc b a e) ∙ sym (plus_assoc x b (plus a e))

pub linear_comm : (a b : Fraction) (p : Dense) → SameDense (times_linear a (times_linear b p)) (times_linear b (times_linear a p))
linear_comm a b p = record {
  each = λ k.
      at_linear a (times_linear b p) k ∙ plus_both (before_linear b p k) (ap (times (negative a)) (at_linear b p k))
      ∙ exchanged (before k (zero_fraction ∷ p)) (before k p) (negative a) (negative b) (at k p)
      ∙ sym (at_linear b (times_linear a p) k ∙ plus_both (before_linear a p k) (ap (times (negative b)) (at_linear a p k)));
}

pub all_same : (qs : List Fraction) {p w : Dense} → SameDense p w → SameDense (times_all qs p) (times_all qs w)
all_same [] h = h
all_same (q ∷ qs) h = linear_same q (all_same qs h)

pub all_scaled : (qs : List Fraction) (l : Fraction) (p : Dense) → SameDense (times_all qs (map (times l) p)) (map (times l) (times_all qs p))
all_scaled [] l p = record { each = λ k. refl }
all_scaled (q ∷ qs) l p = same_trans (linear_same q (all_scaled qs l p)) (linear_scaled q l (times_all qs p))

-- one factor of all is taken to the front
pub all_with : (xs : List Fraction) (q : Fraction) (ys : List Fraction) (p : Dense) → SameDense (times_all (xs ++ q ∷ ys) p) (times_all (xs ++ ys) (times_linear q p))
all_with [] q [] p = record { each = λ k. refl }
all_with [] q (y ∷ ys) p = same_trans (linear_comm q y (times_all ys p)) (linear_same y (all_with [] q ys p))
all_with (x ∷ xs) q ys p = linear_same x (all_with xs q ys p)

-- ---- values

pub value_scaled : (l : Fraction) (p : Dense) (r : Fraction) → value (map (times l) p) r ≡ times l (value p r)
value_scaled l [] r = sym (times_zero l)
value_scaled l (q ∷ p) r = plus_both refl (ap (times r) (value_scaled l p r) ∙ swap_factors r l (value p r)) ∙ sym (times_plus l q (times r (value p r)))

pub value_plus : (v w : Dense) (r : Fraction) → value (dense_plus v w) r ≡ plus (value v r) (value w r)
value_plus [] w r = sym (zero_plus (value w r))
value_plus (q ∷ v) [] r = sym (plus_zero (value (q ∷ v) r))
value_plus (q ∷ v) (s ∷ w) r =
    plus_both refl (ap (times r) (value_plus v w r) ∙ times_plus r (value v r) (value w r)) ∙ mixed q s (times r (value v r)) (times r (value w r))
  where
    mixed : (a b c d : Fraction) → plus (plus a b) (plus c d) ≡ plus (plus a c) (plus b d)
    mixed a b c d = plus_assoc a b (plus c d) ∙ ap (plus a) (sym (plus_assoc b c d) ∙ ap (λ y. plus y d) (plus_comm b c) ∙ plus_assoc c b d) ∙ sym (plus_assoc a c (plus b d))

pub value_linear : (q : Fraction) (p : Dense) (r : Fraction) → value (times_linear q p) r ≡ times (plus r (negative q)) (value p r)
value_linear q p r =
    value_plus (zero_fraction ∷ p) (map (times (negative q)) p) r ∙ plus_both (zero_plus (times r (value p r))) (value_scaled (negative q) p r)
    ∙ plus_both (times_comm r (value p r)) (times_comm (negative q) (value p r)) ∙ sym (times_plus (value p r) r (negative q)) ∙ times_comm (value p r) (plus r (negative q))
