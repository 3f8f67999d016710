use Rattle.breakers.proofs.{Shared.{arith, ap, ◌∙◌, map, sym, with_items_is, length-set}, Arming.{NoneArms-next, NoneArms-armed, NoneArms-any, NoneArms-all}}
use Rattle.breakers.proofs.watch.Watch.arm_first.Goals as goal

pub loop-breaker-preserved : goal.loop-breaker-preserved
loop-breaker-preserved g c =
    NoneArms-next g.B.Breaker.state _ _ _ _ c.loop-breaker.invariant.0 c.loop-breaker.invariant.1 (omega arith) (sym c.if-arms.ensures)

pub returns-then-arms-clause-armed : goal.returns-then-arms-clause-armed
returns-then-arms-clause-armed g c =
    NoneArms-armed g.B.Breaker.state _ c.args.k _ _ _ _ _
    (ap (λ xs. map g.B.Breaker.state xs) (c.loop-breaker.invariant.1 ∙ c.deref_mut-breaker-items.ensures.value))
    (with_items_is c.args.self.now.breakers _ (length-set c.loop-breaker.breaker-items _ _ ∙ omega arith))
    c.loop-breaker.invariant.0 (omega arith) (sym c.if-arms.ensures) c.arm.ensures

pub returns-then-arms-clause-whether_one_can_be : goal.returns-then-arms-clause-whether_one_can_be
returns-then-arms-clause-whether_one_can_be g c =
    NoneArms-any g.B.Breaker.state _ _ _ _
    (ap (λ xs. map g.B.Breaker.state xs) (c.loop-breaker.invariant.1 ∙ c.deref_mut-breaker-items.ensures.value))
    (omega arith) (sym c.if-arms.ensures)

pub returns-clause-armed : goal.returns-clause-armed
returns-clause-armed g c =
    (NoneArms-all g.B.Breaker.state _ c.args.k _ _ _
    (ap (λ xs. map g.B.Breaker.state xs) (c.loop-breaker.invariant.1 ∙ c.deref_mut-breaker-items.ensures.value))
    (with_items_is c.args.self.now.breakers _ (omega arith)) c.loop-breaker.invariant.0 (omega arith)).0

pub returns-clause-whether_one_can_be : goal.returns-clause-whether_one_can_be
returns-clause-whether_one_can_be g c =
    (NoneArms-all g.B.Breaker.state _ c.args.k _ _ _
    (ap (λ xs. map g.B.Breaker.state xs) (c.loop-breaker.invariant.1 ∙ c.deref_mut-breaker-items.ensures.value))
    (with_items_is c.args.self.now.breakers _ (omega arith)) c.loop-breaker.invariant.0 (omega arith)).1
