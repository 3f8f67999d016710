use Rattle.surd_terms.proofs.Shared.{◌≡◌, ◌≢◌, List, [], ◌∷◌, ◌++◌, ◌∙◌, refl, ap, sym, Fraction, plus, times, negative, zero_fraction, value_of, Term, term, Add, Mul, Calculation, calculation}
use Rattle.surd_terms.proofs.{Shared.{square_calculations, square_of, conjugate_product, term_of, negative_not_zero}, Misfits.{step_fits, step_misfit, passed_list, stopped_list, refused_for}}
use Rattle.surd_terms.proofs.{Rationals.{num_not_zero}, Values.{times_not_zero, inverse_not_zero, conjugates_not_zero, conjugate_inverts}, inverses.inverse_of_sum.Goals.{In_ok-difference}}
use Rattle.surd_terms.proofs.inverses.inverse_of_sum.Goals.{In_ok-second, After-new-2}
use Rattle.calc_terms.specs.Fractions.{inverse as inverse_of_fraction}
use Rattle.surd_terms.proofs.inverses.inverse_of_sum.Goals as goal

difference : (c : In_ok-difference) → value_of c.in_ok-difference.difference ≡ conjugate_product (term_of c.args.a) (term_of c.args.b)
difference c = c.in_ok-difference.ensures.sum ∙ (λ i. plus (c.in_ok-square.ensures.value i) ((c.neg.ensures ∙ ap negative c.in_ok-square-2.ensures.value) i))

not_zero : (c : In_ok-difference) → value_of c.in_ok-difference.difference ≢ zero_fraction
not_zero c e = conjugates_not_zero (term_of c.args.a) (term_of c.args.b) c.args.a.not_zero c.args.a.positive c.args.b.positive c.requires (sym (difference c) ∙ e)

pub invert-scale-requires : goal.invert-scale-requires
invert-scale-requires c = num_not_zero c.in_ok-difference.difference (not_zero c)

scale_not_zero : (c : In_ok-second) → value_of c.invert-scale.result ≢ zero_fraction
scale_not_zero c e = inverse_not_zero _ (not_zero (goal.at.In_ok-second c).In_ok-difference) (sym c.invert-scale.ensures.inverse ∙ e)

pub new-requires-clause-not_zero : goal.new-requires-clause-not_zero
new-requires-clause-not_zero c = times_not_zero _ _ _ _ _ c.args.a.not_zero (scale_not_zero (goal.at.new-requires-clause-not_zero c).In_ok-second) c.in_ok-first.ensures.product c.coefficient.ensures.value refl

pub new-requires-2-clause-not_zero : goal.new-requires-2-clause-not_zero
new-requires-2-clause-not_zero c =
    times_not_zero _ _ _ _ _ (negative_not_zero _ c.args.b.not_zero) (scale_not_zero (goal.at.new-requires-2-clause-not_zero c).In_ok-second) c.in_ok-second.ensures.product (c.neg-2.ensures ∙ ap negative c.coefficient-2.ensures.value) refl

-- ---- the calculations, and those of them that are passed

abbrev over : Term → Term → Fraction
over a b = inverse_of_fraction (conjugate_product a b)

abbrev last : Term → Term → List Calculation
last a b = calculation Mul (negative b.coefficient) (over a b) ∷ []

abbrev products : Term → Term → List Calculation
products a b = calculation Mul a.coefficient (over a b) ∷ last a b

abbrev rest : Term → Term → List Calculation
rest a b = calculation Add (square_of a) (negative (square_of b)) ∷ products a b

pub returns-in_err-square-clause-overflow : goal.returns-in_err-square-clause-overflow
returns-in_err-square-clause-overflow c =
    let a = term_of c.args.a in
    let b = term_of c.args.b in
    let r = c.from_residual.result in
    let o = c.in_err-square.field-0.0 in
    let told = c.from_residual.ensures in
    refused_for r o _ told.0 told.1 (stopped_list (square_calculations a) (square_calculations b ++ rest a b) _ c.in_err-square.ensures.overflow)

pub returns-in_err-square-2-clause-overflow : goal.returns-in_err-square-2-clause-overflow
returns-in_err-square-2-clause-overflow c =
    let a = term_of c.args.a in
    let b = term_of c.args.b in
    let r = c.from_residual-in_err-square-2.result in
    let o = c.in_err-square-2.field-0.0 in
    let told = c.from_residual-in_err-square-2.ensures in
    refused_for r o _ told.0 told.1 (stopped_list (square_calculations b) (rest a b) _ c.in_err-square-2.ensures.overflow ∙ sym (passed_list (square_calculations a) (square_calculations b ++ rest a b) c.in_ok-square.ensures.overflow))

pub returns-in_err-difference-clause-overflow : goal.returns-in_err-difference-clause-overflow
returns-in_err-difference-clause-overflow c =
    let a = term_of c.args.a in
    let b = term_of c.args.b in
    let r = c.from_residual-in_err-difference.result in
    let o = c.in_err-difference.field-0.0 in
    let told = c.from_residual-in_err-difference.ensures in
    refused_for r o _ told.0 told.1 (step_misfit _ Add _ _ _ _ (products a b) c.in_err-difference.ensures.named c.in_ok-square.ensures.value (c.neg.ensures ∙ ap negative c.in_ok-square-2.ensures.value) (c.in_err-difference.ensures.refused.0 refl) ∙ sym (passed_list (square_calculations a) (square_calculations b ++ rest a b) c.in_ok-square.ensures.overflow ∙ passed_list (square_calculations b) (rest a b) c.in_ok-square-2.ensures.overflow))

pub returns-in_err-first-clause-overflow : goal.returns-in_err-first-clause-overflow
returns-in_err-first-clause-overflow c =
    let a = term_of c.args.a in
    let b = term_of c.args.b in
    let r = c.from_residual-in_err-first.result in
    let o = c.in_err-first.field-0.0 in
    let told = c.from_residual-in_err-first.ensures in
    let scale : value_of c.invert-scale.result ≡ over a b = c.invert-scale.ensures.inverse ∙ ap inverse_of_fraction (difference (goal.at.returns-in_err-first-clause-overflow c).In_ok-difference) in
    refused_for r o _ told.0 told.1 (step_misfit _ Mul _ _ _ _ (last a b) c.in_err-first.ensures.named c.coefficient.ensures.value scale (c.in_err-first.ensures.refused.0 refl) ∙ sym (passed_list (square_calculations a) (square_calculations b ++ rest a b) c.in_ok-square.ensures.overflow ∙ passed_list (square_calculations b) (rest a b) c.in_ok-square-2.ensures.overflow ∙ step_fits Add _ _ _ _ (products a b) c.in_ok-square.ensures.value (c.neg.ensures ∙ ap negative c.in_ok-square-2.ensures.value) c.in_ok-difference.ensures.refused.1))

pub returns-in_err-second-clause-overflow : goal.returns-in_err-second-clause-overflow
returns-in_err-second-clause-overflow c =
    let a = term_of c.args.a in
    let b = term_of c.args.b in
    let r = c.from_residual-in_err-second.result in
    let o = c.in_err-second.field-0.0 in
    let told = c.from_residual-in_err-second.ensures in
    let scale : value_of c.invert-scale.result ≡ over a b = c.invert-scale.ensures.inverse ∙ ap inverse_of_fraction (difference (goal.at.returns-in_err-second-clause-overflow c).In_ok-difference) in
    refused_for r o _ told.0 told.1 (step_misfit _ Mul _ _ _ _ [] c.in_err-second.ensures.named (c.neg-2.ensures ∙ ap negative c.coefficient-2.ensures.value) scale (c.in_err-second.ensures.refused.0 refl) ∙ sym (passed_list (square_calculations a) (square_calculations b ++ rest a b) c.in_ok-square.ensures.overflow ∙ passed_list (square_calculations b) (rest a b) c.in_ok-square-2.ensures.overflow ∙ step_fits Add _ _ _ _ (products a b) c.in_ok-square.ensures.value (c.neg.ensures ∙ ap negative c.in_ok-square-2.ensures.value) c.in_ok-difference.ensures.refused.1 ∙ step_fits Mul _ _ _ _ (last a b) c.coefficient.ensures.value scale c.in_ok-first.ensures.refused.1))

pub returns : goal.returns
returns c =
    let a = term_of c.args.a in
    let b = term_of c.args.b in
    let scale : value_of c.invert-scale.result ≡ over a b = c.invert-scale.ensures.inverse ∙ ap inverse_of_fraction (difference (goal.at.returns c).In_ok-difference) in
    let below = c.neg-2.ensures ∙ ap negative c.coefficient-2.ensures.value in
    let first = c.new.ensures ∙ (λ i. term ((c.in_ok-first.ensures.product ∙ (λ j. times (c.coefficient.ensures.value j) (scale j))) i) (c.radicand.ensures.value i)) in
    let second = c.new-2.ensures ∙ (λ i. term ((c.in_ok-second.ensures.product ∙ (λ j. times (below j) (scale j))) i) (c.radicand-2.ensures.value i)) in
    record {
      inverts = conjugate_inverts (term_of c.new.result) (term_of c.new-2.result) a b c.args.a.not_zero c.args.a.positive c.args.b.positive c.requires first second;
      first = first;
      second = second;
      overflow = sym (passed_list (square_calculations a) (square_calculations b ++ rest a b) c.in_ok-square.ensures.overflow ∙ passed_list (square_calculations b) (rest a b) c.in_ok-square-2.ensures.overflow
          ∙ step_fits Add _ _ _ _ (products a b) c.in_ok-square.ensures.value (c.neg.ensures ∙ ap negative c.in_ok-square-2.ensures.value) c.in_ok-difference.ensures.refused.1
          ∙ step_fits Mul _ _ _ _ (last a b) c.coefficient.ensures.value scale c.in_ok-first.ensures.refused.1 ∙ step_fits Mul _ _ _ _ [] below scale c.in_ok-second.ensures.refused.1);
      caused = tt;
    }
