use Rattle.breakers.proofs.{Shared.{◌≡◌, map}, Arming.{NoneArms}}
use Rattle.breakers.proofs.watch.Watch.arm_first.Given as goal

abbrev pub invariant-loop-breaker : goal.invariant-loop-breaker
invariant-loop-breaker g l =
    NoneArms l.breaker-index (map g.B.Breaker.state l.breaker-items) × (l.breaker-items ≡ l.initial.breaker-items)
