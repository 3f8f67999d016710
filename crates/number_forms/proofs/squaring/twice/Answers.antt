use Rattle.number_forms.proofs.{Shared.{◌∙◌, DoesNotFit, Fraction, passed_on, plus, refl, subst, sym, term, term_of, value_of}, Twice.{sum_not_zero}, Refusals.{none_given}}
use Rattle.tree_handles.specs.Causes.{Overflows}
use Rattle.rational128.specs.declared.overflow.Op.TheVariants as Op
use Rattle.number_forms.proofs.squaring.twice.Goals as goal

pub new-requires-clause-not_zero : goal.new-requires-clause-not_zero
new-requires-clause-not_zero c = sum_not_zero c.in_ok-coefficient.ensures.sum c.coefficient.ensures.value c.coefficient-2.ensures.value c.coefficient.ensures.not_zero

pub returns-in_err-coefficient : goal.returns-in_err-coefficient
returns-in_err-coefficient c = let r = c.from_residual.result in let e = c.in_err-coefficient.field-0.0 in let said = c.from_residual.ensures in record {
  sum = none_given r _ said.0;
  refused = let refused = c.in_err-coefficient.ensures.refused.0 refl in
      let first = subst (λ (q : Fraction). DoesNotFit Op.Add q (value_of c.coefficient-2.result)) c.coefficient.ensures.value refused in
      (λ _. subst (DoesNotFit Op.Add (term_of c.args.term).coefficient) c.coefficient-2.ensures.value first, λ _. said.0);
  caused = passed_on r e Overflows said.0 said.1 (subst Overflows (sym c.in_err-coefficient.ensures.named) (c.in_err-coefficient.ensures.refused.0 refl));
}

pub returns-clause-sum : goal.returns-clause-sum
returns-clause-sum c =
    c.new.ensures ∙ (λ i. term ((c.in_ok-coefficient.ensures.sum ∙ (λ j. plus (c.coefficient.ensures.value j) (c.coefficient-2.ensures.value j))) i) (c.radicand.ensures.value i))

pub returns-clause-refused : goal.returns-clause-refused
returns-clause-refused c =
    let fits = c.in_ok-coefficient.ensures.refused.1 in (
      λ e. absurd cc,
      λ h. absurd (cc (fits
          (subst (λ (q : Fraction). DoesNotFit Op.Add q (value_of c.coefficient-2.result)) (sym c.coefficient.ensures.value)
          (subst (DoesNotFit Op.Add (term_of c.args.term).coefficient) (sym c.coefficient-2.ensures.value) h)))),
    )
