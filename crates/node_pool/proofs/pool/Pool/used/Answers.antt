use Rattle.node_pool.proofs.{Shared.{◌∙◌, ap, used, State}, Found.end_boundary}
use Rattle.node_pool.proofs.pool.Pool.used.Goals as goal

pub returns-clause-boundary : goal.returns-clause-boundary
returns-clause-boundary c = end_boundary c.args.self.now.nodes c.used.result (c.used.ensures ∙ ap (λ (s : State). used s.nodes) c.self.view_is)
