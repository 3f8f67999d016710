use Rattle.breakers.proofs.{Shared.{rules, ◌==◌, filter_from_retain}, Sweeping.{kept_states}}
use Rattle.breakers.proofs.watch.Watch.sweep.Goals as goal

pub returns : goal.returns
returns g c =
    kept_states g.B.Breaker.state _ _
    (filter_from_retain _ (λ b. (g.B.Breaker.state b).trips == 0) (λ p x b q k. search rules) _ _ _ c.retain.ensures.filtered)
