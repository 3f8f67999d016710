use Rattle.tree_handles.proofs.{Shared.{ap, State}, Opened.stands_open}
use Rattle.tree_handles.proofs.opening.open_pool.Goals as goal

pub returns-clause-stands : goal.returns-clause-stands
returns-clause-stands c = stands_open c.in_ok-pool.pool (ap (λ (s : State). s.nodes) c.in_ok-pool.ensures) (rw (ap (λ (s : State). s.size) c.in_ok-pool.ensures) c.requires)
