use Rattle.surd_terms.proofs.Shared.{◌≡◌, ◌*◌, inl, inr, pos, [], refl, ap, sym, ◌∙◌, arith, times, whole_fraction, Term, term, term_times, Mul, IsExtracted, term_of}
use Rattle.surd_terms.proofs.{Misfits.{refused_for, step_misfit, step_fits}, ProductMisfits.{rational_misfit, coefficients_misfit, two_roots, cancelled_for}, Rationals.{whole_not_zero}}
use Rattle.surd_terms.proofs.{Values.{times_not_zero, extracted_nothing, extracted_value}, products.product_with.Goals.{After-new, After-new-then-radicand-eq1-2}}
use Rattle.surd_terms.proofs.products.product_with.Goals as goal

-- ---- with a rational factor

pub new-requires-clause-not_zero : goal.new-requires-clause-not_zero
new-requires-clause-not_zero c = times_not_zero _ _ _ _ _ c.args.a.not_zero c.args.b.not_zero c.in_ok-coefficient.ensures.product c.coefficient.ensures.value c.coefficient-then-radicand-eq1.ensures.value

first : (c : After-new) → term_of c.new.result ≡ term_times (term_of c.args.a) (term_of c.args.b)
first c =
    let one : c.args.a.radicand ≡ 1 = sym c.radicand.ensures.value ∙ c.if-radicand-eq1.true in
    let radicand : c.radicand-then-radicand-eq1.result ≡ c.args.a.radicand * c.args.b.radicand = c.radicand-then-radicand-eq1.ensures.value ∙ rw one (omega arith) in
    c.new.ensures ∙ (λ i. term ((c.in_ok-coefficient.ensures.product ∙ (λ j. times (c.coefficient.ensures.value j) (c.coefficient-then-radicand-eq1.ensures.value j))) i) (radicand i))

pub returns-then-radicand-eq1-clause-product : goal.returns-then-radicand-eq1-clause-product
returns-then-radicand-eq1-clause-product c = extracted_value _ _ (extracted_nothing _ _ (first c))

pub returns-then-radicand-eq1-clause-extracted : goal.returns-then-radicand-eq1-clause-extracted
returns-then-radicand-eq1-clause-extracted c = extracted_nothing _ _ (first c)

pub returns-in_err-coefficient-clause-overflow : goal.returns-in_err-coefficient-clause-overflow
returns-in_err-coefficient-clause-overflow c =
    rational_misfit (term_of c.args.a) (term_of c.args.b) _ (inl (sym c.radicand.ensures.value ∙ c.if-radicand-eq1.true)) c.args.a.clean c.args.b.clean
    (refused_for c.from_residual.result c.in_err-coefficient.field-0.0 _ c.from_residual.ensures.0 c.from_residual.ensures.1
    (step_misfit _ Mul _ _ _ _ [] c.in_err-coefficient.ensures.named c.coefficient.ensures.value c.coefficient-then-radicand-eq1.ensures.value (c.in_err-coefficient.ensures.refused.0 refl)))

pub returns-then-radicand-eq1-clause-overflow : goal.returns-then-radicand-eq1-clause-overflow
returns-then-radicand-eq1-clause-overflow c =
    rational_misfit (term_of c.args.a) (term_of c.args.b) _ (inl (sym c.radicand.ensures.value ∙ c.if-radicand-eq1.true)) c.args.a.clean c.args.b.clean
    (sym (step_fits Mul _ _ _ _ [] c.coefficient.ensures.value c.coefficient-then-radicand-eq1.ensures.value c.in_ok-coefficient.ensures.refused.1))

pub new-requires-then-radicand-eq1-2-clause-not_zero : goal.new-requires-then-radicand-eq1-2-clause-not_zero
new-requires-then-radicand-eq1-2-clause-not_zero c =
    times_not_zero _ _ _ _ _ c.args.a.not_zero c.args.b.not_zero c.in_ok-coefficient-2.ensures.product c.coefficient-then-radicand-eq1-2.ensures.value c.coefficient-then-radicand-eq1-2-2.ensures.value

second : (c : After-new-then-radicand-eq1-2) → term_of c.new-then-radicand-eq1-2.result ≡ term_times (term_of c.args.a) (term_of c.args.b)
second c =
    let one : c.args.b.radicand ≡ 1 = sym c.radicand-2.ensures.value ∙ c.if-radicand-eq1-2.true in
    let radicand : c.radicand-then-radicand-eq1-2.result ≡ c.args.a.radicand * c.args.b.radicand = c.radicand-then-radicand-eq1-2.ensures.value ∙ rw one (omega arith) in
    c.new-then-radicand-eq1-2.ensures
    ∙ (λ i. term ((c.in_ok-coefficient-2.ensures.product ∙ (λ j. times (c.coefficient-then-radicand-eq1-2.ensures.value j) (c.coefficient-then-radicand-eq1-2-2.ensures.value j))) i) (radicand i))

pub returns-then-radicand-eq1-2-clause-product : goal.returns-then-radicand-eq1-2-clause-product
returns-then-radicand-eq1-2-clause-product c = extracted_value _ _ (extracted_nothing _ _ (second c))

pub returns-then-radicand-eq1-2-clause-extracted : goal.returns-then-radicand-eq1-2-clause-extracted
returns-then-radicand-eq1-2-clause-extracted c = extracted_nothing _ _ (second c)

pub returns-in_err-coefficient-2-clause-overflow : goal.returns-in_err-coefficient-2-clause-overflow
returns-in_err-coefficient-2-clause-overflow c =
    rational_misfit (term_of c.args.a) (term_of c.args.b) _ (inr (sym c.radicand-2.ensures.value ∙ c.if-radicand-eq1-2.true)) c.args.a.clean c.args.b.clean
    (refused_for c.from_residual-in_err-coefficient-2.result c.in_err-coefficient-2.field-0.0 _ c.from_residual-in_err-coefficient-2.ensures.0 c.from_residual-in_err-coefficient-2.ensures.1
    (step_misfit _ Mul _ _ _ _ [] c.in_err-coefficient-2.ensures.named c.coefficient-then-radicand-eq1-2.ensures.value c.coefficient-then-radicand-eq1-2-2.ensures.value (c.in_err-coefficient-2.ensures.refused.0 refl)))

pub returns-then-radicand-eq1-2-clause-overflow : goal.returns-then-radicand-eq1-2-clause-overflow
returns-then-radicand-eq1-2-clause-overflow c =
    rational_misfit (term_of c.args.a) (term_of c.args.b) _ (inr (sym c.radicand-2.ensures.value ∙ c.if-radicand-eq1-2.true)) c.args.a.clean c.args.b.clean
    (sym (step_fits Mul _ _ _ _ [] c.coefficient-then-radicand-eq1-2.ensures.value c.coefficient-then-radicand-eq1-2-2.ensures.value c.in_ok-coefficient-2.ensures.refused.1))
