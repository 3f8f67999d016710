use Rattle.surd_terms.proofs.Shared.{◌≡◌, ◌*◌, inl, inr, pos, [], refl, ap, sym, ◌∙◌, arith, times, whole_fraction, Term, term, term_times, Mul, IsExtracted, term_of}
use Rattle.surd_terms.proofs.{Misfits.{refused_for, step_misfit, step_fits}, ProductMisfits.{rational_misfit, coefficients_misfit, two_roots, cancelled_for}, Rationals.{whole_not_zero}}
use Rattle.surd_terms.proofs.{Values.{times_not_zero, extracted_nothing, extracted_value}, products.product_of_roots.Goals.{After-new}}
use Rattle.surd_terms.proofs.products.product_of_roots.Goals as goal

pub new-requires-clause-not_zero : goal.new-requires-clause-not_zero
new-requires-clause-not_zero c =
    let factors = times_not_zero _ _ _ _ _ c.args.a.not_zero c.args.b.not_zero refl c.coefficient.ensures.value c.coefficient-2.ensures.value in
    times_not_zero _ _ _ _ _ factors (whole_not_zero c.in_ok-root.root c.in_ok-root.ensures.root_positive) c.in_ok-coefficient.ensures.product refl refl

taken_out : (c : After-new) → IsExtracted (term_of c.new.result) (term_times (term_of c.args.a) (term_of c.args.b))
taken_out c = record {
  root = c.in_ok-root.root;
  square = (λ i. sym c.radicand.ensures.value i * sym c.radicand-2.ensures.value i) ∙ c.in_ok-root.ensures.product ∙ ap (λ (t : Term). c.in_ok-root.root * c.in_ok-root.root * t.radicand) (sym c.new.ensures);
  coefficient = ap (λ (t : Term). t.coefficient) c.new.ensures ∙ c.in_ok-coefficient.ensures.product ∙ (λ i. times (times (c.coefficient.ensures.value i) (c.coefficient-2.ensures.value i)) (whole_fraction (pos c.in_ok-root.root)));
}

pub returns-in_err-coefficient-clause-overflow : goal.returns-in_err-coefficient-clause-overflow
returns-in_err-coefficient-clause-overflow c =
    coefficients_misfit (term_of c.args.a) (term_of c.args.b) _ c.in_ok-root.root c.in_ok-root.radicand
    (two_roots (term_of c.args.a) (term_of c.args.b) c.radicand.result c.radicand-2.result c.radicand.ensures.value c.radicand-2.ensures.value
    (λ e. c.requires.first (sym c.radicand.ensures.value ∙ e)) (λ e. c.requires.second (sym c.radicand-2.ensures.value ∙ e)) c.in_ok-root.ensures.overflow)
    ((λ i. sym c.radicand.ensures.value i * sym c.radicand-2.ensures.value i) ∙ c.in_ok-root.ensures.product) c.in_ok-root.ensures.clean
    (cancelled_for c.from_residual-in_err-coefficient.result c.in_err-coefficient.field-0.0 _ _ _ _ _ c.from_residual-in_err-coefficient.ensures.0 c.from_residual-in_err-coefficient.ensures.1 c.coefficient.ensures.value c.coefficient-2.ensures.value
    c.in_err-coefficient.ensures.overflow)

pub returns-clause-product : goal.returns-clause-product
returns-clause-product c = extracted_value _ _ (taken_out c)

pub returns-clause-extracted : goal.returns-clause-extracted
returns-clause-extracted c = taken_out c
