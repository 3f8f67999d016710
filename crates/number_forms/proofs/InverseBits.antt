-- How large the inverse of a Number is.
use Rattle.number_forms.proofs.Shared.{inverse_not_zero, arith, ◌≡◌, ◌≢◌, [], ◌∷◌, true, sym, ap, ◌∙◌, subst, Rises, is_number, value, Term, Surd, term_not_zero}
use Rattle.number_forms.proofs.Shared.{AreProper, value_proper, value_rises, number_words, zero_fraction, Tree, none, more, one_is, zero_test, whole_numerator}
use Rattle.number_forms.proofs.Shared.{inverse_trees, IsInverseOf, term_tree, inverse_of, first_of_inverse, second_of_inverse, IsNoLargerThanInverse, one_no_larger, two_no_larger}
use Rattle.calc_algebra.specs.Numbers.{term_of}

-- ---- the terms of written trees

written_term : (s : Term) → term_of (term_tree s) ≡ s
written_term s = grind (arith, one_is, whole_numerator)

written_value : (s : Term) → s.coefficient ≢ zero_fraction → value (term_tree s) ≡ s ∷ []
written_value s n = grind (arith, zero_test, one_is, whole_numerator)

-- ---- inverses

one_tree : {a b : Tree} → more a none ≡ more b none → b ≡ a
one_tree e = cc

pub inverse_no_larger : (a t : Tree) → is_number a ≡ true → IsInverseOf (value a) t → IsNoLargerThanInverse (value a) (value t)
inverse_no_larger a t n i = by (value a) (value_proper a (number_words a n)) (value_rises a (number_words a n)) i.written
  where
    by : (v : Surd) → AreProper v → Rises v → inverse_trees v ≡ more t none → IsNoLargerThanInverse v (value t)
    by [] p r e = absurd cc
    by (x ∷ []) p r e =
        let same : value t ≡ inverse_of x ∷ [] = ap value (one_tree e) ∙ written_value (inverse_of x) (inverse_not_zero _ (term_not_zero x.coefficient x.radicand p.0.not_zero p.0.positive)) in
        subst (λ (w : Surd). IsNoLargerThanInverse (x ∷ []) w) (sym same) (one_no_larger x p.0.not_zero p.0.positive)
    by (x ∷ y ∷ []) p r e =
        let same : value t ≡ first_of_inverse x y ∷ second_of_inverse x y ∷ [] =
        ap value (one_tree e) ∙ (λ i. written_term (first_of_inverse x y) i ∷ written_term (second_of_inverse x y) i ∷ []) in
        subst (λ (w : Surd). IsNoLargerThanInverse (x ∷ y ∷ []) w) (sym same) (two_no_larger x y p.0.not_zero p.1.0.not_zero p.0.positive p.1.0.positive r.0.1)
    by (x ∷ y ∷ z ∷ v) p r e = absurd cc
