use Rattle.calc_tokens.proofs.Digits.{one_digit_too_many}
use Rattle.calc_tokens.proofs.literals.spelled.Goals as goal

pub returns-then-value-digit : goal.returns-then-value-digit
returns-then-value-digit c =
    rw (← c.loop-digit.invariant.1)
    (one_digit_too_many c.loop-digit.value _ c.loop-digit.digit-index c.args.digits.now c.loop-digit-test.true c.from-digit.ensures c.if-value-digit.true)
