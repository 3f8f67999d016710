-- A rational times a polynomial, and the polynomial 1.
use Rattle.polynomials.proofs.Shared.{one_value, ◌≡◌, ℕ, List, [], ◌∷◌, false, refl, ap, ◌∙◌, pos, whole_numerator, Fraction, is_zero_fraction, lowest, times, int_is_zero, ratio_of, value_of, Ratio}
use Rattle.polynomials.proofs.Shared.{whole, Rat, Term, HaveExponents, constant, one_monomial, row, scaled, Summand, summand, AreTermsOf, polynomial_of, summand_of}
use Rattle.polynomials.proofs.{Exponents.{one_times_packed, packed_exponents}, Worth.{same_is}}
use Rattle.calc_terms.specs.Fractions.{one_fraction}

pub row_constant : (q : Fraction) (ts : List Term) → row (summand q one_monomial) (polynomial_of ts) ≡ scaled q (polynomial_of ts)
row_constant q [] = refl
row_constant q (t ∷ ts) = λ i. summand (times q (value_of t.coefficient)) (one_times_packed t.monomial i) ∷ row_constant q ts i

pub have_scaled : (d : ℕ) (q : Fraction) (ts : List Term) → HaveExponents d (polynomial_of ts) → HaveExponents d (scaled q (polynomial_of ts))
have_scaled d q [] h = tt
have_scaled d q (t ∷ ts) h = (h.0, have_scaled d q ts (h.1))

pub have_packed : (ts : List Term) → HaveExponents 255 (polynomial_of ts)
have_packed [] = tt
have_packed (t ∷ ts) = (packed_exponents t.monomial, have_packed ts)

-- ---- the polynomial 1

pub one_nonzero : is_zero_fraction one_fraction ≡ false
unfolding one_fraction
one_nonzero = ap int_is_zero (whole_numerator (pos 1))

pub one_terms : (r : Rat) (t : Term) → ratio_of r ≡ whole (pos 1) → summand_of t ≡ summand (value_of r) one_monomial → AreTermsOf (constant one_fraction) (t ∷ [])
one_terms r t e f = record {
  normal = (ap is_zero_fraction (ap (λ (s : Summand). s.coefficient) f ∙ one_value r e) ∙ one_nonzero, tt, tt);
  same = same_is (λ i. (f ∙ ap (λ (q : Fraction). summand q one_monomial) (one_value r e)) i ∷ []);
}
