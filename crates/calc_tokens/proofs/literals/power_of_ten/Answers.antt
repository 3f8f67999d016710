use Rattle.calc_tokens.proofs.Digits.{power_too_large}
use Rattle.calc_tokens.proofs.literals.power_of_ten.Goals as goal

pub returns-then-power : goal.returns-then-power
returns-then-power c = power_too_large _ _ c.args.exponent c.loop-test.true (c.loop.invariant.1) c.if-power.true
