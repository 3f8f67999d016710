use Rattle.power_reduce.proofs.{Shared.{pos, ◌<ℤ◌, refl, sym, ap, ◌∙◌, subst, arith, false≢true, PlainValue, value_of, IsPlainOverflow}, RationalPowers.{not_above, below, no_zero_bits}}
use Rattle.power_reduce.proofs.{RationalPowers.{opposite, powered_below, not_zero, fitting_power_of, unfit_power_of, if_err, powered_above, fitting_power}, numbers.power_of.Goals.{Else-n-gt0}}
use Rattle.power_reduce.proofs.numbers.power_of.Goals as goal

pub returns-then-n-gt0-clause-value : goal.returns-then-n-gt0-clause-value
returns-then-n-gt0-clause-value c = grind (arith, powered_above, fitting_power, false≢true)

down : (c : Else-n-gt0) → c.args.n <ℤ pos 0
down c = below c.args.n (not_above c.args.n c.requires.fits c.if-n-gt0.false) (no_zero_bits c.args.n c.if-n-eq0.false)

pub returns-in_err-power-2-clause-named : goal.returns-in_err-power-2-clause-named
returns-in_err-power-2-clause-named c =
    let d = down (goal.at.returns-in_err-power-2-clause-named c).Else-n-gt0 in
    let n = not_zero (value_of c.args.q) c.args.n c.requires.some (not_above c.args.n c.requires.fits c.if-n-gt0.false) in
    if_err _ c.in_err-power-2.field-0.0 _ c.from_residual-in_err-power-2.ensures.1
    (subst (λ (v : PlainValue). IsPlainOverflow v c.in_err-power-2.field-0.0) (sym (powered_below (value_of c.args.q) c.args.n d n))
    (unfit_power_of _ _ _ _ c.in_err-power-2.field-0.0 c.invert.ensures.inverse (opposite c.args.n c.requires.fits d) (c.in_err-power-2.ensures.refused.0 refl) c.in_err-power-2.ensures.named.0 (ap value_of c.in_err-power-2.ensures.named.1) c.in_err-power-2.ensures.named.2))

pub returns-clause-value : goal.returns-clause-value
returns-clause-value c =
    let d = down (goal.at.returns-clause-value c).Else-n-gt0 in
    let n = not_zero (value_of c.args.q) c.args.n c.requires.some (not_above c.args.n c.requires.fits c.if-n-gt0.false) in
    powered_below (value_of c.args.q) c.args.n d n
    ∙ fitting_power_of _ _ _ _ _ c.invert.ensures.inverse (opposite c.args.n c.requires.fits d) (λ f. false≢true (c.in_ok-power-2.ensures.refused.1 f)) c.in_ok-power-2.ensures.power
