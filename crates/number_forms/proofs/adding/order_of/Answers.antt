use Rattle.number_forms.proofs.{Shared.{arith}, RisingPairs.{rising_terms}}
use Rattle.number_forms.proofs.adding.order_of.Goals as goal

pub returns-then-radicand : goal.returns-then-radicand
returns-then-radicand c =
    rising_terms c.args.a c.args.b (omega (arith, c.radicand.ensures.value, c.if-radicand-ge-SQUARE_FREE_BELOW.false))
    (omega (arith, c.radicand-else-radicand-ge-SQUARE_FREE_BELOW.ensures.value, c.if-radicand-ge-SQUARE_FREE_BELOW-2.false))
    (omega (arith, c.radicand-2.ensures.value, c.radicand-3.ensures.value, c.if-radicand.true))

pub returns-then-radicand-2 : goal.returns-then-radicand-2
returns-then-radicand-2 c =
    rising_terms c.args.b c.args.a (omega (arith, c.radicand-else-radicand-ge-SQUARE_FREE_BELOW.ensures.value, c.if-radicand-ge-SQUARE_FREE_BELOW-2.false))
    (omega (arith, c.radicand.ensures.value, c.if-radicand-ge-SQUARE_FREE_BELOW.false))
    (omega (arith, c.radicand-else-radicand.ensures.value, c.radicand-else-radicand-2.ensures.value, c.if-radicand-2.true))
