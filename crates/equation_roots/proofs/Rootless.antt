-- A monic polynomial of degree 2 with a discriminant below 0 has no root.
use Rattle.std.proofs.Common.{◌≡◌, [], ◌∷◌, ◌++◌, sym, ap, ◌∙◌}
use Rattle.std.specs.Prelude.{pos, negsuc}
use Rattle.calc_terms.specs.FractionLaws.{times_plus, times_comm, zero_plus}
use Rattle.calc_terms.specs.Fractions.{Fraction, plus, times, negative, zero_fraction, one_fraction, plus_assoc, plus_comm}
use Rattle.calc_terms.proofs.{SmallFractions.{plus_zero}, SmallLaws.{plus_both}}
use Rattle.calc_algebra.specs.{SquareClasses.{Same, class_coefficient}, Surds.{Surd, surd_of, surd_times}}
use Rattle.calc_algebra.proofs.{MeaningLaws.{class_coefficient-surd_of}, SquareClassLaws.{Same-Agree}, SurdLaws.{class_coefficient-append, surd_times_comm, Agree-surd_times_right}}
use Rattle.equation_roots.proofs.{Squares.{square_not_negative}, Vieta.{by_rational, highest, negative_plus_self, product_left, product_right}}
use Rattle.equation_roots.specs.{Coefficients.{worth}, Factorings.{IsBelowZero, IsNotBelowZero}}

-- what adds up to 0 is the opposite
opposite_is : (a b : Fraction) → plus a b ≡ zero_fraction → b ≡ negative a
opposite_is a b e =
    sym (zero_plus b) ∙ ap (λ x. plus x b) (sym (negative_plus_self a)) ∙ plus_assoc (negative a) a b ∙ ap (plus (negative a)) e ∙ plus_zero (negative a)

completed : (c x h v : Fraction) → plus c (plus (times (plus h h) x) v) ≡ zero_fraction
    → plus (plus v (times h x)) (plus (times h x) (times h h)) ≡ plus (times h h) (negative c)
completed c x h v e =
    plus_assoc v y (plus y z) ∙ ap (plus v) (sym (plus_assoc y y z)) ∙ sym (plus_assoc v (plus y y) z) ∙ ap (λ a. plus a z) (plus_comm v (plus y y) ∙ ap (λ a. plus a v) (sym double))
    ∙ ap (λ a. plus a z) (opposite_is c (plus (times (plus h h) x) v) e) ∙ plus_comm (negative c) z
  where
    y : Fraction
    y = times h x

    z : Fraction
    z = times h h

    double : times (plus h h) x ≡ plus y y
    double = times_comm (plus h h) x ∙ times_plus x h h ∙ plus_both (times_comm x h) (times_comm x h)

both : (q : Fraction) → IsNotBelowZero q → IsBelowZero q → ⊥
both q (n, e) (m, f) = let g : pos n ≡ negsuc m = sym e ∙ f in cc

module _ (c h : Fraction) (v : Surd) (zero : Same (worth (c ∷ plus h h ∷ one_fraction ∷ []) v) []) where
  at_one : plus c (plus (times (plus h h) (class_coefficient v 1)) (class_coefficient (surd_times v v) 1)) ≡ zero_fraction
  at_one =
      sym (class_coefficient-append (surd_of c) _ 1 ∙ plus_both (class_coefficient-surd_of c) (product_right v (surd_of (plus h h)) _ 1 ∙ plus_both (by_rational v (plus h h) 1) ((Agree-surd_times_right v (highest v)).at 1)))
      ∙ (Same-Agree zero).at 1

  square : class_coefficient (surd_times (v ++ surd_of h) (v ++ surd_of h)) 1 ≡ plus (times h h) (negative c)
  square =
      product_left v (surd_of h) (v ++ surd_of h) 1
      ∙ plus_both (product_right v v (surd_of h) 1 ∙ ap (plus (class_coefficient (surd_times v v) 1)) (by_rational v h 1))
      (product_right (surd_of h) v (surd_of h) 1 ∙ plus_both ((surd_times_comm (surd_of h) v).at 1 ∙ by_rational v h 1) (by_rational (surd_of h) h 1 ∙ ap (times h) (class_coefficient-surd_of h)))
      ∙ completed c (class_coefficient v 1) h (class_coefficient (surd_times v v) 1) at_one

pub no_root : (c h : Fraction) (v : Surd) → IsBelowZero (plus (times h h) (negative c)) → ¬ (Same (worth (c ∷ plus h h ∷ one_fraction ∷ []) v) [])
no_root c h v (m, f) zero =
    both (class_coefficient (surd_times (v ++ surd_of h) (v ++ surd_of h)) 1) (square_not_negative (v ++ surd_of h)) (m, ap (λ q. q.num) (square c h v zero) ∙ f)
