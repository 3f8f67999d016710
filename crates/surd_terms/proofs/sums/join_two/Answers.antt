use Rattle.surd_terms.proofs.Shared.{◌≡◌, ◌*◌, pos, true, List, [], ◌∷◌, refl, sym, ap, ◌∙◌, subst, IsGcd, IsClean, plus, times, whole_fraction, value_of, are_alike, term, IsSum, term_of, Add, Mul}
use Rattle.surd_terms.proofs.{Shared.{Calculation, calculation, scaled, scaling, joining_calculations, first_misfit, clean_part}, Misfits.{joining_parts, one_radicand_calculations, step_fits}}
use Rattle.surd_terms.proofs.{Misfits.{step_misfit, refused_for}, Radicands.{shared_positive}, Rationals.{rational_fits}, Values.{sum_joins, sum_is, alike_itself, sum_of_one_radicand}}
use Rattle.surd_terms.proofs.sums.join_two.Goals.{After-coefficient, After-whole, After-multiple, In_ok-left, In_ok-right, In_ok-add}
use Rattle.surd_terms.proofs.sums.join_two.Goals as goal

parts : (c : After-whole) → (c.args.a.radicand ≡ c.in-Some.shared * c.in-Some.first * c.in-Some.first) × (c.args.b.radicand ≡ c.in-Some.shared * c.in-Some.second * c.in-Some.second) × IsGcd c.args.a.radicand c.args.b.radicand c.in-Some.shared
parts c = (
  sym c.radicand.ensures.value ∙ c.in-Some.ensures.first ∙ cc,
  sym c.radicand-2.ensures.value ∙ c.in-Some.ensures.second ∙ cc,
  rw (sym c.radicand.ensures.value, sym c.radicand-2.ensures.value, c.in-Some.shared-is) c.in-Some.ensures.greatest,
)

pub multiple-requires-clause-clean : goal.multiple-requires-clause-clean
multiple-requires-clause-clean c =
    let (first, second, shared) = parts (goal.at.multiple-requires-clause-clean c).After-whole in
    clean_part c.in-Some.shared c.in-Some.first (subst IsClean first c.args.a.clean)

left_value : (c : In_ok-left) → value_of c.in_ok-left.left ≡ times (value_of c.args.a.coefficient) (whole_fraction (pos c.in-Some.first))
left_value c = c.in_ok-left.ensures.product ∙ (λ i. times (c.coefficient.ensures.value i) (c.whole.ensures.value i))

right_value : (c : In_ok-right) → value_of c.in_ok-right.right ≡ times (value_of c.args.b.coefficient) (whole_fraction (pos c.in-Some.second))
right_value c = c.in_ok-right.ensures.product ∙ (λ i. times (c.coefficient-2.ensures.value i) (c.whole-2.ensures.value i))

joined : (c : In_ok-add) → IsSum (term (value_of c.in_ok-add.field-0) c.in-Some.shared) (term_of c.args.a) (term_of c.args.b)
joined c =
    let (first, second, shared) = parts (goal.at.In_ok-add c).After-whole in record {
      first = c.in-Some.first;
      second = c.in-Some.second;
      shared = shared;
      first_part = first;
      second_part = second;
      coefficient = c.in_ok-add.ensures.sum ∙ (λ i. plus (left_value (goal.at.In_ok-add c).In_ok-left i) (right_value (goal.at.In_ok-add c).In_ok-right i));
    }

found : (c : After-whole) → are_alike c.args.a.radicand c.args.b.radicand ≡ true
found c = rw (sym c.radicand.ensures.value, sym c.radicand-2.ensures.value) (c.in-Some.ensures.found.0 refl)

pub returns-clause-joins : goal.returns-clause-joins
returns-clause-joins c =
    let at = (goal.at.returns-clause-joins c).In_ok-add in
    sum_joins c.multiple.result _ (term_of c.args.a) (term_of c.args.b) (found (goal.at.returns-clause-joins c).After-whole) (joined at) c.multiple.ensures

pub returns-clause-sum : goal.returns-clause-sum
returns-clause-sum c = sum_is c.multiple.result _ (term_of c.args.a) (term_of c.args.b) (joined (goal.at.returns-clause-sum c).In_ok-add) c.multiple.ensures

listed : (c : After-whole) → joining_calculations (term_of c.args.a) (term_of c.args.b)
    ≡ scaling (term_of c.args.a) c.in-Some.first ∷ scaling (term_of c.args.b) c.in-Some.second ∷ calculation Add (scaled (term_of c.args.a) c.in-Some.first) (scaled (term_of c.args.b) c.in-Some.second) ∷ []
listed c =
    let (first, second, shared) = parts c in
    joining_parts (term_of c.args.a) (term_of c.args.b) c.in-Some.shared c.in-Some.first c.in-Some.second (found c) (shared_positive c.args.a.radicand c.args.b.radicand c.in-Some.shared c.args.a.positive shared) shared first second

added : (c : After-whole) → List Calculation
added c = calculation Add (scaled (term_of c.args.a) c.in-Some.first) (scaled (term_of c.args.b) c.in-Some.second) ∷ []

pub returns-in_err-left-clause-overflow : goal.returns-in_err-left-clause-overflow
unfolding added
returns-in_err-left-clause-overflow c =
    let at = (goal.at.returns-in_err-left-clause-overflow c).After-whole in
    refused_for c.from_residual.result c.in_err-left.field-0.0 _ c.from_residual.ensures.0 c.from_residual.ensures.1
    (step_misfit _ Mul _ _ _ _ (scaling (term_of c.args.b) c.in-Some.second ∷ added at) c.in_err-left.ensures.named c.coefficient.ensures.value c.whole.ensures.value (c.in_err-left.ensures.refused.0 refl)
    ∙ ap first_misfit (sym (listed at)))

left_passed : (c : In_ok-left) → first_misfit (joining_calculations (term_of c.args.a) (term_of c.args.b)) ≡ first_misfit (scaling (term_of c.args.b) c.in-Some.second ∷ added (goal.at.In_ok-left c).After-whole)
unfolding added
left_passed c =
    let at = (goal.at.In_ok-left c).After-whole in
    ap first_misfit (listed at) ∙ step_fits Mul _ _ _ _ (scaling (term_of c.args.b) c.in-Some.second ∷ added at) c.coefficient.ensures.value c.whole.ensures.value c.in_ok-left.ensures.refused.1

pub returns-in_err-right-clause-overflow : goal.returns-in_err-right-clause-overflow
returns-in_err-right-clause-overflow c =
    refused_for c.from_residual-in_err-right.result c.in_err-right.field-0.0 _ c.from_residual-in_err-right.ensures.0 c.from_residual-in_err-right.ensures.1
    (step_misfit _ Mul _ _ _ _ (added (goal.at.returns-in_err-right-clause-overflow c).After-whole) c.in_err-right.ensures.named c.coefficient-2.ensures.value c.whole-2.ensures.value (c.in_err-right.ensures.refused.0 refl)
    ∙ sym (left_passed (goal.at.returns-in_err-right-clause-overflow c).In_ok-left))

both_passed : (c : In_ok-right) → first_misfit (joining_calculations (term_of c.args.a) (term_of c.args.b))
    ≡ first_misfit (calculation Add (value_of c.in_ok-left.left) (value_of c.in_ok-right.right) ∷ [])
unfolding added
both_passed c =
    left_passed (goal.at.In_ok-right c).In_ok-left
    ∙ step_fits Mul _ _ _ _ (added (goal.at.In_ok-right c).After-whole) c.coefficient-2.ensures.value c.whole-2.ensures.value c.in_ok-right.ensures.refused.1
    ∙ (λ i. first_misfit (calculation Add (sym (left_value (goal.at.In_ok-right c).In_ok-left) i) (sym (right_value c) i) ∷ []))

pub returns-in_err-add-clause-overflow : goal.returns-in_err-add-clause-overflow
returns-in_err-add-clause-overflow c =
    refused_for c.from_residual-in_err-add.result c.in_err-add.field-0.0 _ c.from_residual-in_err-add.ensures.0 c.from_residual-in_err-add.ensures.1
    (step_misfit _ Add _ _ _ _ [] c.in_err-add.ensures.named refl refl (c.in_err-add.ensures.refused.0 refl)
    ∙ sym (both_passed (goal.at.returns-in_err-add-clause-overflow c).In_ok-right))

pub returns-clause-overflow : goal.returns-clause-overflow
returns-clause-overflow c =
    sym (both_passed (goal.at.returns-clause-overflow c).In_ok-right ∙ step_fits Add (value_of c.in_ok-left.left) (value_of c.in_ok-right.right) _ _ [] refl refl c.in_ok-add.ensures.refused.1)
