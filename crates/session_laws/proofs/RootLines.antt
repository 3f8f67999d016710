-- What the answers to lines that ask for roots mean.
use Rattle.std.proofs.Common.{◌≡◌, ◌∙◌, ℕ, List, [], ◌++◌, Option, true, refl, sym, ap, subst}
use Rattle.std.specs.Prelude.{Contains, ◌↔◌}
use Rattle.breakers.specs.State.{State as Breaker}
use Rattle.calc_algebra.proofs.{SquareClassLaws.{Same-Agree, Same-refl, Same-sym, Same-trans}, SurdLaws.{Agree-Same, class_coefficient-append, class_coefficient-surd_scale}}
use Rattle.calc_algebra.specs.{Meanings.{Assignment, Gives, IsAssignment, Means}, SquareClasses.{Same, class_coefficient}, Surds.{Surd, surd_of, surd_scale}}
use Rattle.calc_commands.specs.Commands.{IsCommandLine, roots}
use Rattle.calc_terms.specs.{Fractions.{Fraction, minus_one_fraction, negative, plus, times, zero_fraction}, Trees.{Tree, sub}}
use Rattle.equation_roots.proofs.{Completeness.{rational_is_told, told_solves}, Worths.{rational_is_zero, value_is_zero, worth_is_zero}}
use Rattle.equation_roots.specs.{Coefficients.{value}, Factorings.{Rest, roots_of}}
use Rattle.expansions.proofs.{TreeMeanings.{tree_worth}, ValueLaws.{given_is}}
use Rattle.expansions.specs.{PolynomialTrees.{is_polynomial, polynomial_of}, Values.{given, polynomial_value}}
use Rattle.linear_solve.specs.Equations.{Equation}
use Rattle.calc_session.specs.{Arguments.{bytes_before}, Replies.{Reply, report}, States.{State}, Steps.{IsReply}}
use Rattle.calc_session.specs.Rooting.{HoldsOnly, IsFactoredIn, IsReplyToDifference, IsReplyToPolynomial, IsReplyToRooting, IsZeroIn, does_not_fit, holds_another_name, is_beyond, is_expanded, is_made, is_not_expanded, is_not_made, is_not_one, is_not_read, is_not_written, is_read, is_told, is_zero, lacks_bytes}
use Rattle.calc_terms.specs.FractionLaws.{plus_negative}
use Rattle.calc_terms.specs.Fractions.{plus_assoc, plus_comm}
use Rattle.calc_terms.proofs.SmallFractions.{plus_zero}
use Rattle.expansions.proofs.Shared.{times_zero, zero_plus}
use Rattle.expansions.specs.Polynomials.{Polynomial}
use Rattle.calc_measures.proofs.Inverses.{times_minus_one}
use Rattle.calc_algebra.proofs.TermLaws.{Agree-zero_term}
use Rattle.std.proofs.Common.{map}
use Rattle.std.proofs.lemmas.{List.{get_or-map, length-map}, List.Elements.{Contains-append_left}}
use Rattle.equation_roots.specs.Factorings.{surds_of}
use Rattle.session_laws.proofs.{AskedLines.{commanded_report}, RootValues.{value_by_coefficients}}
use Rattle.session_laws.specs.RootsMeant.{AreTheSame, TellsRoots, TellsRootsOf, each_value, these_values}

-- ---- two sides mean the same where their difference is worth 0

-- fractions whose difference is 0 are the same
no_difference : (a b : Fraction) → plus a (times minus_one_fraction b) ≡ zero_fraction → a ≡ b
no_difference a b e =
    sym (plus_zero a) ∙ ap (plus a) (sym (plus_comm (negative b) b ∙ plus_negative b)) ∙ sym (plus_assoc a (negative b) b) ∙ ap (λ r. plus r b) (ap (plus a) (sym (times_minus_one b)) ∙ e) ∙ zero_plus b

its_own_difference : (b : Fraction) → plus b (times minus_one_fraction b) ≡ zero_fraction
its_own_difference b = ap (plus b) (times_minus_one b) ∙ plus_negative b

abbrev less : Surd → Surd → Surd
less u w = u ++ surd_scale minus_one_fraction w

at_class : (u w : Surd) (s : ℕ) → class_coefficient (less u w) s ≡ plus (class_coefficient u s) (times minus_one_fraction (class_coefficient w s))
at_class u w s = class_coefficient-append u (surd_scale minus_one_fraction w) s ∙ ap (plus (class_coefficient u s)) (class_coefficient-surd_scale minus_one_fraction w s)

same_where_none : (u w : Surd) → Same (less u w) [] → Same u w
same_where_none u w h = Agree-Same (record { at = λ s. no_difference (class_coefficient u s) (class_coefficient w s) (sym (at_class u w s) ∙ (Same-Agree h).at s) })

none_where_same : (u w : Surd) → Same u w → Same (less u w) []
none_where_same u w h = Agree-Same (record {
  at = λ s. at_class u w s ∙ ap (λ a. plus a (times minus_one_fraction (class_coefficient w s))) ((Same-Agree h).at s) ∙ its_own_difference (class_coefficient w s);
})

-- a told fraction is among the told roots
among_roots : (qs : List Fraction) (rest : Rest) (q : Fraction) → Contains qs q → Contains (roots_of qs rest) (surd_of q)
among_roots qs rest q (k, l, e) = Contains-append_left (map surd_of qs) (surds_of rest) (surd_of q) (k, rw length-map l, get_or-map surd_of qs k q (surd_of q) l ∙ ap surd_of e)

-- ---- the sides under an assignment

module _ (x : List ℕ) (e : Equation) (is : is_polynomial (sub e.left e.right) ≡ true) where
  abbrev difference : Polynomial
  difference = polynomial_of (sub e.left e.right)

  module _ (f : Assignment) (once : IsAssignment f) (u w : Surd) (l : Means e.left f u) (r : Means e.right f w) where
    worth_of_difference : Same (less u w) (surd_of (polynomial_value f difference))
    worth_of_difference = tree_worth f once (sub e.left e.right) (less u w) is (u, w, l, r, Same-refl (less u w))

    are_same : polynomial_value f difference ≡ zero_fraction → Same u w
    are_same z = same_where_none u w (Same-trans worth_of_difference (subst (λ q. Same (surd_of q) []) (sym z) (Agree-Same (Agree-zero_term 1))))

    is_worth_zero : Same u w → polynomial_value f difference ≡ zero_fraction
    is_worth_zero h = rational_is_zero (polynomial_value f difference) (Same-trans (Same-sym worth_of_difference) (none_where_same u w h))

  -- where all coefficients are 0
  each_solves : IsZeroIn x difference → (f : Assignment) → IsAssignment f → AreTheSame f e
  each_solves z f once u w l r = are_same f once u w l r (value_by_coefficients x f z ∙ zero_plus (times (given f x) zero_fraction) ∙ times_zero (given f x))

  -- and where it is factored
  these_solve : {qs : List Fraction} {rest : Rest} → IsFactoredIn x difference qs rest
      → (f : Assignment) (q : Fraction) (u w : Surd) → IsAssignment f → Gives f x q → Means e.left f u → Means e.right f w → Same u w ↔ Contains qs q
  these_solve {qs} {rest} h f q u w once g l r =
      let same : polynomial_value f difference ≡ value h.coefficients q = value_by_coefficients x f h.are ∙ ap (value h.coefficients) (given_is f once x q g) in (
        λ k. rational_is_told h.coefficients qs rest q h.factoring (worth_is_zero h.coefficients q (sym same ∙ is_worth_zero f once u w l r k)),
        λ c. are_same f once u w l r (same ∙ value_is_zero h.coefficients q (told_solves h.coefficients qs rest (surd_of q) h.factoring (among_roots qs rest q c))),
      )

-- ---- what a report tells

told_report : (a b : List ℕ) → report a ≡ report b → b ≡ a
told_report a b e = cc

module _ (x : List ℕ) (e : Equation) where
  told_polynomial : {free : ℕ} (reply : Reply) (told : List ℕ) → is_polynomial (sub e.left e.right) ≡ true → IsReplyToPolynomial x free (polynomial_of (sub e.left e.right)) reply → reply ≡ report told → TellsRoots x e told
  told_polynomial reply told is (is_zero z) same = subst (TellsRoots x e) (sym (told_report _ told same)) (each_value (each_solves x e is z))
  told_polynomial reply told is (is_beyond b) same = absurd cc
  told_polynomial reply told is (does_not_fit o m) same = absurd cc
  told_polynomial reply told is (lacks_bytes h short few) same = absurd cc
  told_polynomial reply told is (is_told h) same = subst (TellsRoots x e) (sym (told_report _ told same)) (these_values h (these_solve x e is h))

  record IsTold (told : List ℕ) : Type 0 where
    pub only : HoldsOnly x (sub e.left e.right)
    pub polynomial : is_polynomial (sub e.left e.right) ≡ true
    pub tells : TellsRoots x e told

  told_difference : {free left : ℕ} {before after : List Breaker} (reply : Reply) (told : List ℕ) → IsReplyToDifference x free before after left (sub e.left e.right) reply → reply ≡ report told → IsTold told
  told_difference reply told (holds_another_name c n same) e = absurd cc
  told_difference reply told (is_not_expanded o h) e = absurd cc
  told_difference reply told (is_expanded o p calm h) e = record { only = o; polynomial = p; tells = told_polynomial reply told p h e }

module _ (room bits : Option (Tree → ℕ)) (old : State) (before checked : List Breaker) (line x text : List ℕ) (asked : IsCommandLine line (roots x text)) where
  told_roots : (reply : Reply) (told : List ℕ) → IsReplyToRooting old before checked (bytes_before line text) x text reply → reply ≡ report told → TellsRootsOf old line x told
  told_roots reply told (is_not_written n same) e = absurd cc
  told_roots reply told (is_not_one s n same) e = absurd cc
  told_roots reply told (is_not_read s n h same) e = absurd cc
  told_roots reply told (is_read s r (is_not_made n same)) e = absurd cc
  told_roots reply told (is_read {es = written} {e = read} s r (is_made {left = left} {f = sides} become h)) e =
      let t = told_difference x sides reply told h e in
      record {
        text = text;
        asks = asked;
        written = written;
        splits = s;
        read = read;
        reads = r;
        sides = sides;
        left = left;
        become = become;
        only = t.only;
        polynomial = t.polynomial;
        tells = t.tells;
      }

  pub tells_roots : (told : List ℕ) → IsReply room bits old before checked line (report told) → TellsRootsOf old line x told
  tells_roots told h = told_roots (report told) told (commanded_report room bits old before checked line (roots x text) refl asked told h) refl
