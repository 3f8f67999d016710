use Rattle.rational128.proofs.{Shared.{◌≡◌, ℕ, ◌*◌, ◌/◌, ◌<◌, ◌^◌, refl, subst, ◌∙◌, SomeIff}, PowerLaws.{IsPowering, starts, turn, unfit_product, unfit_square, last_product}}
use Rattle.rational128.proofs.powers.power_by_squares.Goals as goal
use Rattle.rational128.proofs.powers.power_by_squares.Goals.{Joined-left-eq1, then-left-eq1+in_ok-power, else-left-eq1}

pub loop-left-init : goal.loop-left-init
loop-left-init c = starts _ _ c.requires.positive c.requires.once

pub returns-in_err-power : goal.returns-in_err-power
returns-in_err-power c = rw c.from_residual.ensures (unfit_product _ _ _ _ _ c.loop-left.invariant c.in_err-power.ensures)

-- what the turn makes of the power and the square
turned : (c : Joined-left-eq1) (square : ℕ) → square ≡ c.loop-left.square * c.loop-left.square → IsPowering c.args.base c.args.exponent c.if-left-eq1.power square (c.loop-left.left / 2)
turned c square e =
    turn _ _ _ _ _ _ _ c.loop-left.invariant c.loop-left-test.true
    (λ odd. elim c.if-left-eq1.branch [ then-left-eq1+in_ok-power w ↦ w.power-is ∙ w.in_ok-power.ensures.1 | else-left-eq1 w ↦ absurd (w.if-left-eq1.false odd) ])
    (λ even. elim c.if-left-eq1.branch [ then-left-eq1+in_ok-power w ↦ absurd (even w.if-left-eq1.true) | else-left-eq1 w ↦ w.power-is ])
    e

pub returns-in_err-square : goal.returns-in_err-square
returns-in_err-square c = rw c.from_residual-in_err-square.ensures (unfit_square _ _ _ _ _ (turned (goal.at.returns-in_err-square c).Joined-left-eq1 _ refl) c.in_err-square.ensures)

pub loop-left-preserved : goal.loop-left-preserved
loop-left-preserved c = turned (goal.at.loop-left-preserved c).Joined-left-eq1 c.in_ok-square.square c.in_ok-square.ensures.1

pub returns : goal.returns
returns c =
    let e = last_product _ _ _ _ _ c.loop-left.invariant c.loop-left-test.false in
    subst (λ n. SomeIff c.product-2.result (n < 2 ^ 127) n) e c.product-2.ensures
