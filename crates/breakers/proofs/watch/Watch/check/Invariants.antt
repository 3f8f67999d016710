use Rattle.breakers.proofs.{Shared.{map}, Polling.{PassedBelow}}
use Rattle.breakers.proofs.watch.Watch.check.Given as goal

abbrev pub invariant-loop-place : goal.invariant-loop-place
invariant-loop-place g l =
    PassedBelow l.place (map g.B.Breaker.state l.initial.breaker-items) (map g.B.Breaker.state l.breaker-items)
