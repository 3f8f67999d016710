use Rattle.std.proofs.Common.{◌<◌, ◌≤◌, ◌*ℤ◌, ◌^◌, ℕ, pos, neg_ℤ, nat_abs, ap, sym, subst, ◌∙◌, arith}
use Rattle.calc_terms.specs.{Fractions.{lowest}, Integers.{int_is_negative}, Rat.{value_of}}
use Rattle.equation_roots.specs.{Factorings.{IsAboveZero}, Pairs.{beside_of, middle_of}, Rationals.{rationals_of}, Rests.{pair_of}, Squares.{Finishes}, Told.{wholes_of}}
use Rattle.equation_roots.proofs.{Candidates.{positive_abs}, Formula.{above}, Wide.{abs_positive, same_bits, told}}
use Rattle.equation_roots.proofs.Finishing.{above_is, above_rational, finish_double, finish_pair, finish_rootless, negative_is_below, not_negative_is, outside_fits, outside_positive, positive_whole, radicand_fits, radicand_positive, square_of_outside, zero_fits}
use Rattle.equation_roots.proofs.quadratic.by_square.Goals as goal
use mir.Syntax.{w128}
use mir.Val.{of_z}

pub returns-then-is_negative-clause-finishes : goal.returns-then-is_negative-clause-finishes
returns-then-is_negative-clause-finishes c =
    let k = c.requires.completed in
    finish_rootless (rationals_of c.args.found.now) (wholes_of c.args.left.now) c.args.square.half c.args.square.den c.args.square.under c.requires.three c.requires.positive k
    (value_of c.ratio.result) (value_of c.ratio-then-is_negative.result)
    (negative_is_below c.args.square.under (ap int_is_negative (sym (told c.args.square.under k.under_fits)) ∙ sym c.is_negative.ensures ∙ c.if-is_negative.true))
    (c.ratio.ensures.value ∙ (λ i. lowest (told c.args.square.half k.half_fits i) (nat_abs (told c.args.square.den k.den_fits i))))
    (c.ratio-then-is_negative.ensures.value ∙ (λ i. lowest ((told c.get.result c.get.ensures.fits ∙ c.get.ensures.value) i)
    (nat_abs ((told c.get-then-is_negative.result c.get-then-is_negative.ensures.fits ∙ c.get-then-is_negative.ensures.value) i))))

pub returns-then-square-eq0-clause-finishes : goal.returns-then-square-eq0-clause-finishes
returns-then-square-eq0-clause-finishes c =
    let k = c.requires.completed in
    finish_double (rationals_of c.args.found.now) (wholes_of c.args.left.now) c.args.square.half c.args.square.den c.args.square.under c.requires.three c.requires.positive k
    (rationals_of c.insert.new.self) (rationals_of c.insert-then-square-eq0.new.self) (value_of c.ratio-middle.result)
    (same_bits c.args.square.under (pos 0) k.under_fits zero_fits c.if-square-eq0.true)
    (c.ratio-middle.ensures.value ∙ (λ i. lowest ((told c.opposite.result c.opposite.ensures.fits ∙ c.opposite.ensures.value ∙ ap neg_ℤ (told c.args.square.half k.half_fits)) i) (nat_abs (told c.args.square.den k.den_fits i))))
    c.insert.ensures c.insert-then-square-eq0.ensures

pub whole-requires : goal.whole-requires
whole-requires c =
    let k = c.requires.completed in
    let r = c.unsigned_abs.ensures.value ∙ ap nat_abs (told c.args.square.under k.under_fits) in
    let p : 0 < nat_abs c.args.square.under = abs_positive c.args.square.under (λ e. c.if-square-eq0.false (ap (of_z w128) e)) in
    outside_fits c.unsigned_abs.result c.split-outside.result.0 c.split-outside.result.1 c.split-outside.ensures.product (subst (λ (n : ℕ). 0 < n) (sym r) p) (subst (λ (n : ℕ). n < 2 ^ 127) (sym r) k.under_fits)

pub two_rationals-requires-clause-square : goal.two_rationals-requires-clause-square
two_rationals-requires-clause-square c =
    let k = c.requires.completed in
    let d = not_negative_is c.args.square.under (ap int_is_negative (sym (told c.args.square.under k.under_fits)) ∙ sym c.is_negative.ensures ∙ c.if-is_negative.false) in
    let r = c.unsigned_abs.ensures.value ∙ ap nat_abs (told c.args.square.under k.under_fits) in
    let w = told c.whole.result c.whole.ensures.fits ∙ c.whole.ensures.value in
    square_of_outside c.args.square.under c.split-outside.result.0 c.split-outside.result.1 (d ∙ ap (λ (n : ℕ). pos n) (sym r ∙ c.split-outside.ensures.product)) c.if-radicand-eq1.true ∙ sym (λ i. w i *ℤ w i)

pub whole-requires-2 : goal.whole-requires-2
whole-requires-2 c =
    let k = c.requires.completed in
    let r = c.unsigned_abs.ensures.value ∙ ap nat_abs (told c.args.square.under k.under_fits) in
    let p : 0 < nat_abs c.args.square.under = abs_positive c.args.square.under (λ e. c.if-square-eq0.false (ap (of_z w128) e)) in
    outside_fits c.unsigned_abs.result c.split-outside.result.0 c.split-outside.result.1 c.split-outside.ensures.product (subst (λ (n : ℕ). 0 < n) (sym r) p) (subst (λ (n : ℕ). n < 2 ^ 127) (sym r) k.under_fits)

pub new-requires-clause-above : goal.new-requires-clause-above
new-requires-clause-above c =
    let k = c.requires.completed in
    let r = c.unsigned_abs.ensures.value ∙ ap nat_abs (told c.args.square.under k.under_fits) in
    let p : 0 < nat_abs c.args.square.under = abs_positive c.args.square.under (λ e. c.if-square-eq0.false (ap (of_z w128) e)) in
    let o = outside_positive c.unsigned_abs.result c.split-outside.result.0 c.split-outside.result.1 c.split-outside.ensures.product (subst (λ (n : ℕ). 0 < n) (sym r) p) in
    above_rational (value_of c.ratio-beside.result)
    (subst IsAboveZero (sym (c.ratio-beside.ensures.value ∙ (λ i. lowest ((told c.whole-2.result c.whole-2.ensures.fits ∙ c.whole-2.ensures.value) i) (nat_abs (told c.args.square.den k.den_fits i)))))
    (above (pos c.split-outside.result.0) (nat_abs c.args.square.den) (positive_abs c.args.square.den k.positive) (positive_whole c.split-outside.result.0 o)))

pub new-requires-clause-irrational : goal.new-requires-clause-irrational
new-requires-clause-irrational c =
    let k = c.requires.completed in
    let r = c.unsigned_abs.ensures.value ∙ ap nat_abs (told c.args.square.under k.under_fits) in
    let p : 0 < nat_abs c.args.square.under = abs_positive c.args.square.under (λ e. c.if-square-eq0.false (ap (of_z w128) e)) in
    let t = radicand_positive c.unsigned_abs.result c.split-outside.result.0 c.split-outside.result.1 c.split-outside.ensures.product (subst (λ (n : ℕ). 0 < n) (sym r) p) in
    omega (arith, t, c.if-radicand-eq1.false)

pub new-requires-clause-fits : goal.new-requires-clause-fits
new-requires-clause-fits c =
    let k = c.requires.completed in
    let r = c.unsigned_abs.ensures.value ∙ ap nat_abs (told c.args.square.under k.under_fits) in
    let p : 0 < nat_abs c.args.square.under = abs_positive c.args.square.under (λ e. c.if-square-eq0.false (ap (of_z w128) e)) in
    radicand_fits c.unsigned_abs.result c.split-outside.result.0 c.split-outside.result.1 c.split-outside.ensures.product (subst (λ (n : ℕ). 0 < n) (sym r) p) (subst (λ (n : ℕ). n < 2 ^ 127) (sym r) k.under_fits)

pub returns-clause-finishes : goal.returns-clause-finishes
returns-clause-finishes c =
    let k = c.requires.completed in
    let d = not_negative_is c.args.square.under (ap int_is_negative (sym (told c.args.square.under k.under_fits)) ∙ sym c.is_negative.ensures ∙ c.if-is_negative.false) in
    let r = c.unsigned_abs.ensures.value ∙ ap nat_abs (told c.args.square.under k.under_fits) in
    subst (λ (t : ℕ). Finishes (rationals_of c.args.found.now) (wholes_of c.args.left.now) (rationals_of c.args.found.now) (pair_of (middle_of c.new.result) (beside_of c.new.result) t)) (sym c.new.ensures.radicand)
    (finish_pair (rationals_of c.args.found.now) (wholes_of c.args.left.now) c.args.square.half c.args.square.den c.args.square.under c.requires.three c.requires.positive k
    c.split-outside.result.0 c.split-outside.result.1 (middle_of c.new.result) (beside_of c.new.result) (d ∙ ap (λ (n : ℕ). pos n) (sym r ∙ c.split-outside.ensures.product))
    (c.new.ensures.middle ∙ c.ratio-middle.ensures.value ∙ (λ i. lowest ((told c.opposite.result c.opposite.ensures.fits ∙ c.opposite.ensures.value ∙ ap neg_ℤ (told c.args.square.half k.half_fits)) i) (nat_abs (told c.args.square.den k.den_fits i))))
    (c.new.ensures.beside ∙ c.ratio-beside.ensures.value ∙ (λ i. lowest ((told c.whole-2.result c.whole-2.ensures.fits ∙ c.whole-2.ensures.value) i) (nat_abs (told c.args.square.den k.den_fits i))))
    c.split-outside.ensures.clean (subst (λ (n : ℕ). 2 ≤ n) c.new.ensures.radicand c.new.result.irrational) (above_is (beside_of c.new.result).num c.new.result.above))
