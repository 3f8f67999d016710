use Rattle.breakers.proofs.{Shared.{arith, ap, ◌∙◌, map, with_items_is, length-set}, Polling.{PassedBelow-next, PassedBelow-trip, PassedBelow-all, tripped_tells, calm_tells}}
use Rattle.breakers.proofs.watch.Watch.check.Goals as goal

pub loop-place-preserved : goal.loop-place-preserved
loop-place-preserved g c = PassedBelow-next g.B.Breaker.state _ _ _ _ _ c.loop-place.invariant (omega arith) c.if-poll.ensures

pub returns-then-poll-clause-interrupted : goal.returns-then-poll-clause-interrupted
returns-then-poll-clause-interrupted g c =
    PassedBelow-trip g.B.Breaker.state _ _ _ _ _ _ _ (ap (λ xs. map g.B.Breaker.state xs) c.deref_mut-breaker-items.ensures.value)
    (with_items_is c.args.self.now.breakers _ (length-set c.loop-place.breaker-items _ _ ∙ omega arith)) c.loop-place.invariant (omega arith) c.if-poll.ensures

pub returns-then-poll-clause-by_the_one_whose_trips_rose :
    goal.returns-then-poll-clause-by_the_one_whose_trips_rose
returns-then-poll-clause-by_the_one_whose_trips_rose g c = tripped_tells _ _ _ (returns-then-poll-clause-interrupted g c)

pub returns-clause-calm : goal.returns-clause-calm
returns-clause-calm g c =
    PassedBelow-all g.B.Breaker.state _ _ _ _ _ (ap (λ xs. map g.B.Breaker.state xs) c.deref_mut-breaker-items.ensures.value)
    (with_items_is c.args.self.now.breakers _ (omega arith)) c.loop-place.invariant (omega arith)

pub returns-clause-by_the_one_whose_trips_rose : goal.returns-clause-by_the_one_whose_trips_rose
returns-clause-by_the_one_whose_trips_rose g c = calm_tells _ _ (returns-clause-calm g c)
