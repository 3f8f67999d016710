use Rattle.number_forms.proofs.Shared.{◌≡◌, ◌≢◌, ℕ, ◌≤◌, [], ◌∷◌, sym, ap, ◌∙◌, Result, arith, value, tree_of, term_of, first_misfit, inverting_calculations, Surd, Overflow, Terms, misfit_of}
use Rattle.number_forms.proofs.{Shared.{passed_result, passed_on, refl, rules}, InverseSteps.{only_term, both_terms, apart_terms, one_inverse, two_inverse}}
use Rattle.number_forms.proofs.{Placings.{rational_classes, rational_radicand}, inverting.inverse_terms.Goals.{After-inverse, After-nth_term-second}, Refusals.{none_given}}
use Rattle.tree_handles.specs.Causes.{Overflows}
use Rattle.number_forms.proofs.inverting.inverse_terms.Goals as goal

two : (n : ℕ) → 1 ≤ n → n ≤ 2 → n ≢ 1 → n ≡ 2
two n l h k = grind arith

both : (c : After-nth_term-second) → value (tree_of c.args.a.now c.args.pool.now) ≡ term_of c.nth_term-first.result ∷ term_of c.nth_term-second.result ∷ []
both c = both_terms _ _ _ (sym c.requires.classes ∙ two c.args.terms c.requires.some c.requires.few c.if-terms-eq1.false) c.nth_term-first.ensures c.nth_term-second.ensures

pub inverse_of_sum-requires : goal.inverse_of_sum-requires
inverse_of_sum-requires c = apart_terms _ _ _ c.requires.number (both (goal.at.inverse_of_sum-requires c).After-nth_term-second)

abbrev IsMisfit : Surd → Result Terms Overflow → Type 0
IsMisfit v r = misfit_of r ≡ first_misfit (inverting_calculations v)

-- ---- of one term

only : (c : After-inverse) → value (tree_of c.args.a.now c.args.pool.now) ≡ term_of c.nth_term-first.result ∷ []
only c = only_term _ _ (sym c.requires.classes ∙ c.if-terms-eq1.true) c.nth_term-first.ensures

-- ---- of two

pub nth_term-first-requires-clause-within : goal.nth_term-first-requires-clause-within
nth_term-first-requires-clause-within c = omega (arith, c.requires.classes, c.requires.some)

pub nth_term-second-requires-clause-within : goal.nth_term-second-requires-clause-within
nth_term-second-requires-clause-within c = omega (arith, c.requires.classes, two c.args.terms c.requires.some c.requires.few c.if-terms-eq1.false)

pub returns-in_err-one : goal.returns-in_err-one
returns-in_err-one c = let r = c.from_residual.result in let e = c.in_err-one.field-0.0 in let said = c.from_residual.ensures in record {
  ok = none_given r _ said.0;
  overflow = passed_result r e (IsMisfit (value (tree_of c.args.a.now c.args.pool.now))) said.0 said.1
      (c.in_err-one.ensures.overflow ∙ ap (λ v. first_misfit (inverting_calculations v)) (sym (only (goal.at.returns-in_err-one c).After-inverse)));
  rational = λ q e. absurd (cc (c.in_err-one.ensures.rational (rational_radicand (tree_of c.args.a.now c.args.pool.now) q _ e (only (goal.at.returns-in_err-one c).After-inverse))));
  caused = search rules;
}

pub returns-then-terms-eq1 : goal.returns-then-terms-eq1
returns-then-terms-eq1 c = record {
  ok = one_inverse _ _ c.in_ok-one.one (only (goal.at.returns-then-terms-eq1 c).After-inverse) c.in_ok-one.ensures.inverts c.in_ok-one.ensures.value;
  overflow = c.in_ok-one.ensures.overflow ∙ ap (λ v. first_misfit (inverting_calculations v)) (sym (only (goal.at.returns-then-terms-eq1 c).After-inverse));
  rational = λ q e. refl;
  caused = tt;
}

pub returns-in_err-inverse : goal.returns-in_err-inverse
returns-in_err-inverse c = let r = c.from_residual-in_err-inverse.result in let e = c.in_err-inverse.field-0.0 in let said = c.from_residual-in_err-inverse.ensures in record {
  ok = none_given r _ said.0;
  overflow = passed_result r e (IsMisfit (value (tree_of c.args.a.now c.args.pool.now))) said.0 said.1
      (c.in_err-inverse.ensures.overflow ∙ ap (λ v. first_misfit (inverting_calculations v)) (sym (both (goal.at.returns-in_err-inverse c).After-nth_term-second)));
  rational = λ q e. absurd (rational_classes (tree_of c.args.a.now c.args.pool.now) q e (sym c.requires.classes ∙ two c.args.terms c.requires.some c.requires.few c.if-terms-eq1.false));
  caused = passed_on r e Overflows said.0 said.1 c.in_err-inverse.ensures.caused;
}

pub returns : goal.returns
returns c = record {
  ok = two_inverse _ _ _ c.in_ok-inverse.inverse.0 c.in_ok-inverse.inverse.1 c.requires.number (both (goal.at.returns c).After-nth_term-second) c.in_ok-inverse.ensures.inverts
      c.in_ok-inverse.ensures.first c.in_ok-inverse.ensures.second;
  overflow = c.in_ok-inverse.ensures.overflow ∙ ap (λ v. first_misfit (inverting_calculations v)) (sym (both (goal.at.returns c).After-nth_term-second));
  rational = λ q e. refl;
  caused = tt;
}
