use Rattle.rational128.proofs.{Shared.{arith, w128}, Divisors.{turns, IsGcd-same, IsGcd-ordered}}
use Rattle.rational128.proofs.divisor.odd_gcd.Goals as goal

pub overflow_shr-y : goal.overflow_shr-y
overflow_shr-y c = (turns w128 _ _ _ _ c.loop-x.invariant.x_odd c.loop-x.invariant.y_odd c.loop-x-test.true c.min-low.ensures c.max-high.ensures (omega arith)).below

pub returns-then-high : goal.returns-then-high
returns-then-high c =
    c.loop-x.invariant.keeps _ (IsGcd-ordered _ _ _ _ _ c.min-low.ensures c.max-high.ensures (rw c.from.ensures c.odd_gcd_64.ensures))

pub loop-x-preserved : goal.loop-x-preserved
loop-x-preserved c =
    let turn = turns w128 _ _ _ _ c.loop-x.invariant.x_odd c.loop-x.invariant.y_odd c.loop-x-test.true c.min-low.ensures c.max-high.ensures (omega arith) in
    record { x_odd = turn.low_odd; y_odd = turn.rest_odd; keeps = λ g h. c.loop-x.invariant.keeps g (turn.keeps g h) }

pub loop-x-smaller : goal.loop-x-smaller
loop-x-smaller c = (turns w128 _ _ _ _ c.loop-x.invariant.x_odd c.loop-x.invariant.y_odd c.loop-x-test.true c.min-low.ensures c.max-high.ensures (omega arith)).smaller

pub returns : goal.returns
returns c = c.loop-x.invariant.keeps _ (IsGcd-same _ _ c.loop-x-test.false)
