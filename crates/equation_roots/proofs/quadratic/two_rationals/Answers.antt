use Rattle.std.proofs.Common.{nat_abs, ◌≤◌, ◌^◌, refl, arith}
use Rattle.equation_roots.proofs.Sizes.{item_at_most, no_misfit_sum, opposite_is_small, outside_is_small}
use Rattle.calc_terms.specs.Rat.{value_of}
use Rattle.equation_roots.specs.{Rationals.{rationals_of}, Told.{wholes_of}}
use Rattle.equation_roots.proofs.Finishing.{two_handed}
use Rattle.equation_roots.proofs.quadratic.two_rationals.Goals as goal

pub returns-clause-finishes : goal.returns-clause-finishes
returns-clause-finishes c =
    two_handed (rationals_of c.args.found.now) (wholes_of c.args.left.now) c.args.square.half c.args.square.den c.args.square.under c.args.outside c.opposite-middle.result c.opposite.result
    c.in_ok-lower.lower c.in_ok-upper.upper c.requires.three c.requires.positive c.requires.completed c.requires.outside c.opposite-middle.ensures.fits c.opposite.ensures.fits
    c.in_ok-lower.ensures.fits c.in_ok-upper.ensures.fits c.requires.square c.opposite-middle.ensures.value c.opposite.ensures.value c.in_ok-lower.ensures.value c.in_ok-upper.ensures.value
    (rationals_of c.insert.new.self) (rationals_of c.insert-2.new.self) (value_of c.ratio.result) (value_of c.ratio-2.result) c.ratio.ensures.value c.ratio-2.ensures.value c.insert.ensures c.insert-2.ensures

pub returns-in_err-lower-clause-bits : goal.returns-in_err-lower-clause-bits
returns-in_err-lower-clause-bits c = λ e h.
    let k = c.requires.completed in
    let b : nat_abs c.args.square.half ≤ 2 ^ 62 = omega (arith, k.half_at_most, item_at_most (wholes_of c.args.left.now) 1, h) in
    let m = opposite_is_small c.args.square.half c.opposite-middle.result (2 ^ 62) b (omega arith) c.opposite-middle.ensures.value in
    let o = outside_is_small c.args.square.under c.args.outside c.requires.square k.under_fits in
    let x = opposite_is_small c.args.outside c.opposite.result (2 ^ 126) o (omega arith) c.opposite.ensures.value in
    no_misfit_sum c.opposite-middle.result c.opposite.result (omega (arith, m)) x (c.in_err-lower.ensures.beyond refl)

pub returns-in_err-upper-clause-bits : goal.returns-in_err-upper-clause-bits
returns-in_err-upper-clause-bits c = λ e h.
    let k = c.requires.completed in
    let b : nat_abs c.args.square.half ≤ 2 ^ 62 = omega (arith, k.half_at_most, item_at_most (wholes_of c.args.left.now) 1, h) in
    let m = opposite_is_small c.args.square.half c.opposite-middle.result (2 ^ 62) b (omega arith) c.opposite-middle.ensures.value in
    let o = outside_is_small c.args.square.under c.args.outside c.requires.square k.under_fits in
    no_misfit_sum c.opposite-middle.result c.args.outside (omega (arith, m)) o (c.in_err-upper.ensures.beyond refl)
