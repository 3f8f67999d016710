use Rattle.surd_terms.proofs.Shared.{◌≡◌, ◌*◌, pos, true, List, [], ◌∷◌, refl, sym, ap, ◌∙◌, subst, IsGcd, IsClean, plus, times, whole_fraction, value_of, are_alike, term, IsSum, term_of, Add, Mul}
use Rattle.surd_terms.proofs.{Shared.{Calculation, calculation, scaled, scaling, joining_calculations, first_misfit, clean_part}, Misfits.{joining_parts, one_radicand_calculations, step_fits}}
use Rattle.surd_terms.proofs.{Misfits.{step_misfit, refused_for}, Radicands.{shared_positive}, Rationals.{rational_fits}, Values.{sum_joins, sum_is, alike_itself, sum_of_one_radicand}}
use Rattle.surd_terms.proofs.sums.join.Goals.{After-coefficient, After-multiple}
use Rattle.surd_terms.proofs.sums.join.Goals as goal

pub returns-in_err-coefficient-clause-apart : goal.returns-in_err-coefficient-clause-apart
returns-in_err-coefficient-clause-apart c = λ h. absurd (cc (alike_itself c.args.a.radicand c.args.b.radicand c.args.a.positive (sym c.radicand.ensures.value ∙ c.if-radicand.true ∙ c.radicand-2.ensures.value)))

one_radicand : (c : After-multiple) → c.args.a.radicand ≡ c.args.b.radicand
one_radicand c = sym c.radicand.ensures.value ∙ c.if-radicand.true ∙ c.radicand-2.ensures.value

summed : (c : After-multiple) → IsSum (term (value_of c.in_ok-coefficient.coefficient) c.radicand-then-radicand.result) (term_of c.args.a) (term_of c.args.b)
summed c = sum_of_one_radicand _ (term_of c.args.a) (term_of c.args.b) (one_radicand c) c.radicand-then-radicand.ensures.value
    (c.in_ok-coefficient.ensures.sum ∙ (λ i. plus (c.coefficient.ensures.value i) (c.coefficient-then-radicand.ensures.value i)))

pub returns-then-radicand-clause-joins : goal.returns-then-radicand-clause-joins
returns-then-radicand-clause-joins c = sum_joins c.multiple.result _ (term_of c.args.a) (term_of c.args.b) (alike_itself c.args.a.radicand c.args.b.radicand c.args.a.positive (one_radicand c)) (summed c) c.multiple.ensures

pub returns-then-radicand-clause-sum : goal.returns-then-radicand-clause-sum
returns-then-radicand-clause-sum c = sum_is c.multiple.result _ (term_of c.args.a) (term_of c.args.b) (summed c) c.multiple.ensures

pub returns-then-radicand-clause-apart : goal.returns-then-radicand-clause-apart
returns-then-radicand-clause-apart c = λ h. absurd (cc (alike_itself c.args.a.radicand c.args.b.radicand c.args.a.positive (one_radicand c)))

-- ---- what is refused

calculated : (c : After-coefficient) → first_misfit (joining_calculations (term_of c.args.a) (term_of c.args.b)) ≡ first_misfit (calculation Add (value_of c.args.a.coefficient) (value_of c.args.b.coefficient) ∷ [])
calculated c =
    one_radicand_calculations (term_of c.args.a) (term_of c.args.b) c.args.a.positive (sym c.radicand.ensures.value ∙ c.if-radicand.true ∙ c.radicand-2.ensures.value) (rational_fits c.args.a.coefficient) (rational_fits c.args.b.coefficient)

pub returns-in_err-coefficient-clause-overflow : goal.returns-in_err-coefficient-clause-overflow
returns-in_err-coefficient-clause-overflow c =
    refused_for c.from_residual.result c.in_err-coefficient.field-0.0 _ c.from_residual.ensures.0 c.from_residual.ensures.1
    (step_misfit _ Add _ _ _ _ [] c.in_err-coefficient.ensures.named c.coefficient.ensures.value c.coefficient-then-radicand.ensures.value (c.in_err-coefficient.ensures.refused.0 refl)
    ∙ sym (calculated (goal.at.returns-in_err-coefficient-clause-overflow c).After-coefficient))

pub returns-then-radicand-clause-overflow : goal.returns-then-radicand-clause-overflow
returns-then-radicand-clause-overflow c =
    sym (calculated (goal.at.returns-then-radicand-clause-overflow c).After-coefficient
    ∙ step_fits Add _ _ _ _ [] c.coefficient.ensures.value c.coefficient-then-radicand.ensures.value c.in_ok-coefficient.ensures.refused.1)
