use Rattle.std.proofs.Common.{pos, nat_abs, ◌≤◌, ◌^◌, refl, arith}
use Rattle.equation_roots.proofs.Sizes.{four_is_small, half_at_most, no_misfit_four, no_misfit_product, no_misfit_sum, opposite_is_small, product_is_small}
use Rattle.equation_roots.proofs.Finishing.{even_completed, odd_completed}
use Rattle.std.proofs.Common.{◌∙◌}
use Rattle.equation_roots.proofs.Wide.{told}
use Rattle.equation_roots.proofs.quadratic.completed.Goals as goal

pub returns-in_ok-under-in-Some-clause-completed : goal.returns-in_ok-under-in-Some-clause-completed
returns-in_ok-under-in-Some-clause-completed c =
    even_completed c.args.a c.args.b c.args.c c.in-Some.half c.in_ok-square-in-Some.square c.in_ok-others-in-Some.others c.opposite.result c.in_ok-under-in-Some.under
    c.requires.positive c.requires.first c.requires.third c.in-Some.ensures.fits c.in_ok-square-in-Some.ensures.fits c.in_ok-others-in-Some.ensures.fits c.opposite.ensures.fits c.in_ok-under-in-Some.ensures.fits
    (c.in-Some.ensures.exact ∙ told c.args.b c.requires.second) c.in_ok-square-in-Some.ensures.value c.in_ok-others-in-Some.ensures.value c.opposite.ensures.value c.in_ok-under-in-Some.ensures.value

pub returns-in_ok-under-in-None-clause-completed : goal.returns-in_ok-under-in-None-clause-completed
returns-in_ok-under-in-None-clause-completed c =
    odd_completed c.args.a c.args.b c.args.c c.in_ok-den-in-None.den c.in_ok-square-in-None.square c.in_ok-others-in-None.others c.in_ok-four_times-in-None.four_times c.opposite-in-None.result
    c.in_ok-under-in-None.under c.requires.positive c.requires.first c.requires.second c.requires.third c.in_ok-den-in-None.ensures.fits c.in_ok-square-in-None.ensures.fits
    c.in_ok-others-in-None.ensures.fits c.in_ok-four_times-in-None.ensures.fits c.opposite-in-None.ensures.fits c.in_ok-under-in-None.ensures.fits
    c.in_ok-den-in-None.ensures.value c.in_ok-square-in-None.ensures.value c.in_ok-others-in-None.ensures.value c.in_ok-four_times-in-None.ensures.value c.opposite-in-None.ensures.value c.in_ok-under-in-None.ensures.value

pub returns-in_err-square-in-Some-clause-bits : goal.returns-in_err-square-in-Some-clause-bits
returns-in_err-square-in-Some-clause-bits c = λ e ha hb hc.
    let h : nat_abs c.in-Some.half ≤ 2 ^ 62 = omega (arith, half_at_most c.in-Some.half c.args.b (c.in-Some.ensures.exact ∙ told c.args.b c.requires.second), hb) in
    no_misfit_product c.in-Some.half c.in-Some.half h h (c.in_err-square-in-Some.ensures.beyond refl)

pub returns-in_err-others-in-Some-clause-bits : goal.returns-in_err-others-in-Some-clause-bits
returns-in_err-others-in-Some-clause-bits c = λ e ha hb hc. no_misfit_product c.args.a c.args.c ha hc (c.in_err-others-in-Some.ensures.beyond refl)

pub returns-in_err-under-in-Some-clause-bits : goal.returns-in_err-under-in-Some-clause-bits
returns-in_err-under-in-Some-clause-bits c = λ e ha hb hc.
    let h : nat_abs c.in-Some.half ≤ 2 ^ 62 = omega (arith, half_at_most c.in-Some.half c.args.b (c.in-Some.ensures.exact ∙ told c.args.b c.requires.second), hb) in
    let s = product_is_small c.in-Some.half c.in-Some.half c.in_ok-square-in-Some.square h h c.in_ok-square-in-Some.ensures.value in
    let o = product_is_small c.args.a c.args.c c.in_ok-others-in-Some.others ha hc c.in_ok-others-in-Some.ensures.value in
    let m = opposite_is_small c.in_ok-others-in-Some.others c.opposite.result (2 ^ 124) o (omega arith) c.opposite.ensures.value in
    no_misfit_sum c.in_ok-square-in-Some.square c.opposite.result s (omega (arith, m)) (c.in_err-under-in-Some.ensures.beyond refl)

two_is_small : nat_abs (pos 2) ≤ 2 ^ 62
two_is_small = omega arith

pub returns-in_err-den-in-None-clause-bits : goal.returns-in_err-den-in-None-clause-bits
returns-in_err-den-in-None-clause-bits c = λ e ha hb hc. no_misfit_product (pos 2) c.args.a two_is_small ha (c.in_err-den-in-None.ensures.beyond refl)

pub returns-in_err-square-in-None-clause-bits : goal.returns-in_err-square-in-None-clause-bits
returns-in_err-square-in-None-clause-bits c = λ e ha hb hc. no_misfit_product c.args.b c.args.b hb hb (c.in_err-square-in-None.ensures.beyond refl)

pub returns-in_err-others-in-None-clause-bits : goal.returns-in_err-others-in-None-clause-bits
returns-in_err-others-in-None-clause-bits c = λ e ha hb hc. no_misfit_product c.args.a c.args.c ha hc (c.in_err-others-in-None.ensures.beyond refl)

pub returns-in_err-four_times-in-None-clause-bits : goal.returns-in_err-four_times-in-None-clause-bits
returns-in_err-four_times-in-None-clause-bits c = λ e ha hb hc.
    no_misfit_four c.in_ok-others-in-None.others (product_is_small c.args.a c.args.c c.in_ok-others-in-None.others ha hc c.in_ok-others-in-None.ensures.value)
    (c.in_err-four_times-in-None.ensures.beyond refl)

pub returns-in_err-under-in-None-clause-bits : goal.returns-in_err-under-in-None-clause-bits
returns-in_err-under-in-None-clause-bits c = λ e ha hb hc.
    let s = product_is_small c.args.b c.args.b c.in_ok-square-in-None.square hb hb c.in_ok-square-in-None.ensures.value in
    let o = product_is_small c.args.a c.args.c c.in_ok-others-in-None.others ha hc c.in_ok-others-in-None.ensures.value in
    let f = four_is_small c.in_ok-others-in-None.others c.in_ok-four_times-in-None.four_times o c.in_ok-four_times-in-None.ensures.value in
    let m = opposite_is_small c.in_ok-four_times-in-None.four_times c.opposite-in-None.result (2 ^ 126) f (omega arith) c.opposite-in-None.ensures.value in
    no_misfit_sum c.in_ok-square-in-None.square c.opposite-in-None.result s m (c.in_err-under-in-None.ensures.beyond refl)
