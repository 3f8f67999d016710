use Rattle.expand_forms.proofs.Shared.{◌≡◌, ◌∙◌, length, refl, sym, eq-eqb, eqb-true, value_of, mult, is_one_fraction, factor_trees, led_by, many_factors, gives_as, if_ok_map}
use Rattle.expand_forms.proofs.{PlacedFactors.{led_alone, many_led}, TermReadings.{led_some, led_term}, replacing.place_term.Goals.{else-factors-eq1-via-then-factors-eq1+else-is_one}}
use Rattle.expand_forms.proofs.replacing.place_term.Goals.{else-factors-eq1-via-else-factors-eq1}
use Rattle.number_forms.proofs.Safety.{one_placed}
use Rattle.expand_forms.proofs.replacing.place_term.Goals as goal

pub returns-then-is_empty-clause-ok : goal.returns-then-is_empty-clause-ok
returns-then-is_empty-clause-ok c = λ m h.
    let none = eqb-true (length c.args.factors.now) 0 (sym c.is_empty.ensures ∙ c.if-is_empty.true) in
    if_ok_map c.number.result c.number.ensures.given (λ t g. gives_as g refl (λ u e. e ∙ led_alone (value_of c.args.coefficient) c.args.factors.now m h none))

pub returns-clause-ok : goal.returns-clause-ok
returns-clause-ok c = λ m h.
    let q = value_of c.args.coefficient in
    let xs = c.args.factors.now in
    let one : length xs ≡ 1 → is_one_fraction q ≡ _ = λ e. elim c.else-factors-eq1.branch [
      | else-factors-eq1-via-then-factors-eq1+else-is_one w ↦ sym w.is_one.ensures ∙ w.if-is_one.false
      | else-factors-eq1-via-else-factors-eq1 w ↦ absurd (w.if-factors-eq1.false e)
    ] in
    let many = many_led q xs m h (λ e. absurd (cc (sym c.is_empty.ensures ∙ c.if-is_empty.false, eq-eqb (length xs) 0 e))) one in
    if_ok_map c.place_product.result (c.place_product.ensures.ok m h)
    (λ t g. gives_as g refl (λ u e. e ∙ many_factors (mult (led_by q (factor_trees m))) refl (led_some q (factor_trees m)) many ∙ led_term q m))

pub returns-then-is_empty-clause-safe : goal.returns-then-is_empty-clause-safe
returns-then-is_empty-clause-safe c = one_placed _ c.number.result c.number.ensures.kept c.number.ensures.full c.number.ensures.front c.number.ensures.stands
