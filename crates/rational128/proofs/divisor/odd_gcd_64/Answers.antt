use Rattle.rational128.proofs.{Shared.{arith, w64}, Divisors.{turns, IsGcd-same}}
use Rattle.rational128.proofs.divisor.odd_gcd_64.Goals as goal

pub overflow_shr-y : goal.overflow_shr-y
overflow_shr-y c = (turns w64 _ _ _ _ c.loop-x.invariant.x_odd c.loop-x.invariant.y_odd c.loop-x-test.true c.min-low.ensures c.max.ensures (omega arith)).below

pub loop-x-preserved : goal.loop-x-preserved
loop-x-preserved c =
    let turn = turns w64 _ _ _ _ c.loop-x.invariant.x_odd c.loop-x.invariant.y_odd c.loop-x-test.true c.min-low.ensures c.max.ensures (omega arith) in
    record { x_odd = turn.low_odd; y_odd = turn.rest_odd; keeps = λ g h. c.loop-x.invariant.keeps g (turn.keeps g h) }

pub loop-x-smaller : goal.loop-x-smaller
loop-x-smaller c = (turns w64 _ _ _ _ c.loop-x.invariant.x_odd c.loop-x.invariant.y_odd c.loop-x-test.true c.min-low.ensures c.max.ensures (omega arith)).smaller

pub returns : goal.returns
returns c = c.loop-x.invariant.keeps _ (IsGcd-same _ _ c.loop-x-test.false)
