use Rattle.surd_terms.proofs.Shared.{◌≤◌, ◌/◌, pos, [], ◌∷◌, refl, sym, ◌∙◌, times, whole_fraction, value_of, Mul, calculation, IsCancelled, ◌∣◌}
use Rattle.surd_terms.proofs.{Misfits.{step_fits, step_misfit, product_misfit, refused_for, if_value}, WholeFactors.{cancelled_is, cancelled_product, cancelled_misfit, second_positive}}
use Rattle.surd_terms.proofs.cancelling.scaled_product.Goals.{After-gcd-second}
use Rattle.surd_terms.proofs.cancelling.scaled_product.Goals as goal

cancelled : (c : After-gcd-second) → IsCancelled c.args.n (value_of c.args.c) (value_of c.args.d) c.gcd-first.result c.gcd-second.result (c.args.n / c.gcd-first.result / c.gcd-second.result)
cancelled c =
    cancelled_is (value_of c.args.c) (value_of c.args.d) c.args.n c.denominator.result c.denominator-2.result c.gcd-first.result c.gcd-second.result c.requires.positive c.denominator.ensures.value c.denominator-2.ensures.value c.gcd-first.ensures c.gcd-second.ensures

first_divides : (c : After-gcd-second) → c.gcd-first.result ∣ (value_of c.args.c).den
first_divides c = (cancelled c).with_first.1

second_divides : (c : After-gcd-second) → c.gcd-second.result ∣ (value_of c.args.d).den
second_divides c = (cancelled c).with_second.1

second_is_positive : (c : After-gcd-second) → 1 ≤ c.gcd-second.result
second_is_positive c = second_positive _ _ _ _ _ _ c.requires.positive (cancelled c)

pub multiple-requires-clause-divides : goal.multiple-requires-clause-divides
multiple-requires-clause-divides c = first_divides (goal.at.multiple-requires-clause-divides c).After-gcd-second

pub multiple-requires-2-clause-positive : goal.multiple-requires-2-clause-positive
multiple-requires-2-clause-positive c = second_is_positive (goal.at.multiple-requires-2-clause-positive c).After-gcd-second

pub multiple-requires-2-clause-divides : goal.multiple-requires-2-clause-divides
multiple-requires-2-clause-divides c = second_divides (goal.at.multiple-requires-2-clause-divides c).After-gcd-second

pub nonzero_div-left-2 : goal.nonzero_div-left-2
nonzero_div-left-2 c = second_is_positive (goal.at.nonzero_div-left-2 c).After-gcd-second

pub returns-in_err-product-clause-overflow : goal.returns-in_err-product-clause-overflow
returns-in_err-product-clause-overflow c =
    let x = times (value_of c.args.c) (whole_fraction (pos c.gcd-first.result)) in
    let y = times (value_of c.args.d) (whole_fraction (pos c.gcd-second.result)) in
    cancelled_misfit _ _ _ _ _ _ c.requires.positive (cancelled (goal.at.returns-in_err-product-clause-overflow c).After-gcd-second) _
    (refused_for c.from_residual.result c.in_err-product.field-0.0 _ c.from_residual.ensures.0 c.from_residual.ensures.1
    (step_misfit _ Mul _ _ x y (calculation Mul (times x y) (whole_fraction (pos (c.args.n / c.gcd-first.result / c.gcd-second.result))) ∷ []) c.in_err-product.ensures.named c.multiple.ensures c.multiple-2.ensures (c.in_err-product.ensures.refused.0 refl)))

pub returns-clause-overflow : goal.returns-clause-overflow
returns-clause-overflow c =
    let at = (goal.at.returns-clause-overflow c).After-gcd-second in
    let x = times (value_of c.args.c) (whole_fraction (pos c.gcd-first.result)) in
    let y = times (value_of c.args.d) (whole_fraction (pos c.gcd-second.result)) in
    cancelled_misfit _ _ _ _ _ _ c.requires.positive (cancelled at) _
    (product_misfit c.mul-2.result c.in_ok-product.product c.whole.result (times x y) (whole_fraction (pos (c.args.n / c.gcd-first.result / c.gcd-second.result))) c.mul-2.ensures.refused c.mul-2.ensures.named
    (c.in_ok-product.ensures.product ∙ (λ i. times (c.multiple.ensures i) (c.multiple-2.ensures i))) c.whole.ensures.value
    ∙ sym (step_fits Mul x y _ _ (calculation Mul (times x y) (whole_fraction (pos (c.args.n / c.gcd-first.result / c.gcd-second.result))) ∷ []) c.multiple.ensures c.multiple-2.ensures c.in_ok-product.ensures.refused.1))

pub returns-clause-product : goal.returns-clause-product
returns-clause-product c =
    if_value c.mul-2.result _ _
    ((λ i. times ((c.in_ok-product.ensures.product ∙ (λ j. times (c.multiple.ensures j) (c.multiple-2.ensures j))) i) (c.whole.ensures.value i)) ∙ cancelled_product _ _ _ _ _ _ c.requires.positive (cancelled (goal.at.returns-clause-product c).After-gcd-second))
    c.mul-2.ensures.product
