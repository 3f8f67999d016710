-- What a polynomial is worth at a rational.
use Rattle.std.proofs.Common.{◌≡◌, [], ◌∷◌, refl, sym, ap, ◌∙◌}
use Rattle.calc_terms.specs.Fractions.{Fraction, times, zero_fraction}
use Rattle.calc_terms.proofs.SmallLaws.{plus_both}
use Rattle.calc_algebra.specs.{SquareClasses.{Same, class_coefficient}, Surds.{surd_of, surd_times}}
use Rattle.calc_algebra.proofs.{MeaningLaws.{class_coefficient-surd_of}, SquareClassLaws.{Same-Agree}, TermLaws.{Agree-zero_term, joined_radicand}}
use Rattle.calc_algebra.proofs.SurdLaws.{Agree, Agree-Same, Agree-sym, class_coefficient-append, class_coefficient-surd_scale, surd_times-surd_of}
use Rattle.equation_roots.specs.Coefficients.{Dense, value, worth}

pub worth_value : (p : Dense) (r : Fraction) → Agree (worth p (surd_of r)) (surd_of (value p r))
worth_value [] r = Agree-sym (Agree-zero_term 1)
worth_value (q ∷ p) r = record {
  at = λ s.
      class_coefficient-append (surd_of q) (surd_times (surd_of r) (worth p (surd_of r))) s
      ∙ plus_both refl ((surd_times-surd_of r (worth p (surd_of r))).at s ∙ class_coefficient-surd_scale r (worth p (surd_of r)) s ∙ ap (times r) ((worth_value p r).at s)
      ∙ sym (class_coefficient-surd_scale r (surd_of (value p r)) s))
      ∙ sym (class_coefficient-append (surd_of q) (surd_of (times r (value p r))) s) ∙ (Same-Agree (joined_radicand q (times r (value p r)) 1)).at s;
}

pub rational_is_zero : (q : Fraction) → Same (surd_of q) [] → q ≡ zero_fraction
rational_is_zero q h = sym (class_coefficient-surd_of q) ∙ (Same-Agree h).at 1

pub value_is_zero : (p : Dense) (r : Fraction) → Same (worth p (surd_of r)) [] → value p r ≡ zero_fraction
value_is_zero p r h = sym (class_coefficient-surd_of (value p r)) ∙ sym ((worth_value p r).at 1) ∙ (Same-Agree h).at 1

pub worth_is_zero : (p : Dense) (r : Fraction) → value p r ≡ zero_fraction → Same (worth p (surd_of r)) []
worth_is_zero p r e = Agree-Same (record { at = λ s. (worth_value p r).at s ∙ ap (λ q. class_coefficient (surd_of q) s) e ∙ (Agree-zero_term 1).at s })
