-- What products with X - q are worth.
use Rattle.std.proofs.Common.{◌≡◌, ℕ, suc, List, [], ◌∷◌, ◌++◌, map, refl, sym, ap, ◌∙◌}
use Rattle.calc_terms.specs.FractionLaws.{times_plus, zero_plus}
use Rattle.calc_terms.specs.Fractions.{Fraction, plus, times, negative, zero_fraction, one_fraction, plus_assoc, plus_comm}
use Rattle.calc_terms.proofs.{SmallFractions.{plus_zero}, SmallLaws.{plus_both}}
use Rattle.calc_algebra.specs.{SquareClasses.{Same, class_coefficient}, Surds.{Surd, surd_of, surd_scale, surd_times}}
use Rattle.calc_algebra.proofs.{SquareClassLaws.{Same-Agree}, TermLaws.{Agree-zero_term, joined_radicand}}
use Rattle.calc_algebra.proofs.SurdLaws.{Agree, Agree-Same, Agree-refl, Agree-sym, Agree-trans, Agree-surd_scale, Agree-surd_times_right, class_coefficient-append, class_coefficient-surd_scale, surd_times-append, surd_times-nil, surd_times-surd_of}
use Rattle.equation_roots.specs.{Coefficients.{Dense, dense_plus, times_all, times_linear, worth}, Factorings.{IsFactoring, Rest, dense_of, less, product_at}}
use Rattle.equation_roots.proofs.{Values.{SameDense, at_scaled}, Vieta.{negative_is, product_right, scaled_right}}

-- ---- equal coefficients

rest_same : {q r : Fraction} {p w : Dense} → SameDense (q ∷ p) (r ∷ w) → SameDense p w
rest_same h = record { each = λ k. h.each (suc k) }

rest_zero : {r : Fraction} {w : Dense} → SameDense [] (r ∷ w) → SameDense [] w
rest_zero h = record { each = λ k. h.each (suc k) }

turned : {p w : Dense} → SameDense p w → SameDense w p
turned h = record { each = λ k. sym (h.each k) }

zero_more : (r : Fraction) (w : Dense) (v : Surd) → zero_fraction ≡ r → Agree [] (worth w v) → Agree [] (worth (r ∷ w) v)
zero_more r w v e a = record {
  at = λ s.
      sym (class_coefficient-append (surd_of r) (surd_times v (worth w v)) s
      ∙ plus_both (ap (λ q. class_coefficient (surd_of q) s) (sym e) ∙ (Agree-zero_term 1).at s)
      ((Agree-surd_times_right v (Agree-sym a)).at s ∙ ap (λ x. class_coefficient x s) (surd_times-nil v)) ∙ zero_plus zero_fraction);
}

worth_none : (w : Dense) (v : Surd) → SameDense [] w → Agree [] (worth w v)
worth_none [] v h = Agree-refl []
worth_none (r ∷ w) v h = zero_more r w v (h.each 0) (worth_none w v (rest_zero h))

pub worth_same : (p w : Dense) (v : Surd) → SameDense p w → Agree (worth p v) (worth w v)
worth_same [] w v h = worth_none w v h
worth_same (q ∷ p) [] v h = Agree-sym (worth_none (q ∷ p) v (turned h))
worth_same (q ∷ p) (r ∷ w) v h = record {
  at = λ s.
      class_coefficient-append (surd_of q) (surd_times v (worth p v)) s
      ∙ plus_both (ap (λ x. class_coefficient (surd_of x) s) (h.each 0)) ((Agree-surd_times_right v (worth_same p w v (rest_same h))).at s)
      ∙ sym (class_coefficient-append (surd_of r) (surd_times v (worth w v)) s);
}

-- ---- multiples and sums

scaled_one : (l q : Fraction) (s : ℕ) → class_coefficient (surd_of (times l q)) s ≡ times l (class_coefficient (surd_of q) s)
scaled_one l q s = class_coefficient-surd_scale l (surd_of q) s

pub worth_scaled : (l : Fraction) (p : Dense) (v : Surd) → Agree (worth (map (times l) p) v) (surd_scale l (worth p v))
worth_scaled l [] v = Agree-refl []
worth_scaled l (q ∷ p) v = record {
  at = λ s.
      class_coefficient-append (surd_of (times l q)) (surd_times v (worth (map (times l) p) v)) s
      ∙ plus_both (scaled_one l q s) ((Agree-surd_times_right v (worth_scaled l p v)).at s ∙ scaled_right v l (worth p v) s)
      ∙ sym (times_plus l (class_coefficient (surd_of q) s) (class_coefficient (surd_times v (worth p v)) s))
      ∙ ap (times l) (sym (class_coefficient-append (surd_of q) (surd_times v (worth p v)) s)) ∙ sym (class_coefficient-surd_scale l (worth (q ∷ p) v) s);
}

sum_one : (q r : Fraction) (s : ℕ) → class_coefficient (surd_of (plus q r)) s ≡ plus (class_coefficient (surd_of q) s) (class_coefficient (surd_of r) s)
sum_one q r s = sym ((Same-Agree (joined_radicand q r 1)).at s) ∙ class_coefficient-append (surd_of q) (surd_of r) s

pub mixed : (a b c d : Fraction) → plus (plus a b) (plus c d) ≡ plus (plus a c) (plus b d)
mixed a b c d = plus_assoc a b (plus c d) ∙ ap (plus a) (sym (plus_assoc b c d) ∙ ap (λ y. plus y d) (plus_comm b c) ∙ plus_assoc c b d) ∙ sym (plus_assoc a c (plus b d))

plus_more : (q r : Fraction) (p w : Dense) (v : Surd) → Agree (worth (dense_plus p w) v) (worth p v ++ worth w v)
    → (s : ℕ) → class_coefficient (worth (plus q r ∷ dense_plus p w) v) s ≡ plus (class_coefficient (worth (q ∷ p) v) s) (class_coefficient (worth (r ∷ w) v) s)
plus_more q r p w v both s =
    class_coefficient-append (surd_of (plus q r)) (surd_times v (worth (dense_plus p w) v)) s
    ∙ plus_both (sum_one q r s) ((Agree-surd_times_right v both).at s ∙ product_right v (worth p v) (worth w v) s)
    ∙ mixed (class_coefficient (surd_of q) s) (class_coefficient (surd_of r) s) (class_coefficient (surd_times v (worth p v)) s) (class_coefficient (surd_times v (worth w v)) s)
    ∙ plus_both (sym (class_coefficient-append (surd_of q) (surd_times v (worth p v)) s)) (sym (class_coefficient-append (surd_of r) (surd_times v (worth w v)) s))

worth_plus : (p w : Dense) (v : Surd) (s : ℕ) → class_coefficient (worth (dense_plus p w) v) s ≡ plus (class_coefficient (worth p v) s) (class_coefficient (worth w v) s)
worth_plus [] w v s = sym (zero_plus (class_coefficient (worth w v) s))
worth_plus (q ∷ p) [] v s = sym (plus_zero (class_coefficient (worth (q ∷ p) v) s))
worth_plus (q ∷ p) (r ∷ w) v s =
    plus_more q r p w v (record { at = λ t. worth_plus p w v t ∙ sym (class_coefficient-append (worth p v) (worth w v) t) }) s

-- ---- linear factors

worth_shifted : (p : Dense) (v : Surd) (s : ℕ) → class_coefficient (worth (zero_fraction ∷ p) v) s ≡ class_coefficient (surd_times v (worth p v)) s
worth_shifted p v s =
    class_coefficient-append (surd_of zero_fraction) (surd_times v (worth p v)) s ∙ plus_both ((Agree-zero_term 1).at s) refl ∙ zero_plus (class_coefficient (surd_times v (worth p v)) s)

times_less : (q : Fraction) (u v : Surd) (s : ℕ) → class_coefficient (surd_times (less v (surd_of q)) u) s ≡ plus (class_coefficient (surd_times v u) s) (times (negative q) (class_coefficient u s))
times_less q u v s =
    ap (λ x. class_coefficient x s) (surd_times-append v (surd_of (times (negative one_fraction) q)) u)
    ∙ class_coefficient-append (surd_times v u) (surd_times (surd_of (times (negative one_fraction) q)) u) s
    ∙ plus_both refl ((surd_times-surd_of (times (negative one_fraction) q) u).at s ∙ class_coefficient-surd_scale (times (negative one_fraction) q) u s ∙ ap (λ x. times x (class_coefficient u s)) (negative_is q))

pub worth_linear : (q : Fraction) (p : Dense) (v : Surd) → Agree (worth (times_linear q p) v) (surd_times (less v (surd_of q)) (worth p v))
worth_linear q p v = record {
  at = λ s.
      worth_plus (zero_fraction ∷ p) (map (times (negative q)) p) v s
      ∙ plus_both (worth_shifted p v s) ((worth_scaled (negative q) p v).at s ∙ class_coefficient-surd_scale (negative q) (worth p v) s) ∙ sym (times_less q (worth p v) v s);
}

pub worth_all : (qs : List Fraction) (p : Dense) (v : Surd) → Agree (worth (times_all qs p) v) (product_at qs v (worth p v))
worth_all [] p v = Agree-refl (worth p v)
worth_all (q ∷ qs) p v = Agree-trans (worth_linear q (times_all qs p) v) (Agree-surd_times_right (less v (surd_of q)) (worth_all qs p v))

-- a polynomial with a factoring is worth the product of its factors
pub factored_agree : (p : Dense) (qs : List Fraction) (rest : Rest) (v : Surd) (f : IsFactoring p qs rest) → Agree (worth p v) (surd_scale f.lead (product_at qs v (worth (dense_of rest) v)))
factored_agree p qs rest v f =
    Agree-trans (worth_same p (map (times f.lead) (times_all qs (dense_of rest))) v (record { each = λ k. f.equal k ∙ sym (at_scaled f.lead (times_all qs (dense_of rest)) k) }))
    (Agree-trans (worth_scaled f.lead (times_all qs (dense_of rest)) v) (Agree-surd_scale f.lead (worth_all qs (dense_of rest) v)))

pub factored_worth : (p : Dense) (qs : List Fraction) (rest : Rest) (v : Surd) (f : IsFactoring p qs rest) → Same (worth p v) (surd_scale f.lead (product_at qs v (worth (dense_of rest) v)))
factored_worth p qs rest v f = Agree-Same (factored_agree p qs rest v f)
