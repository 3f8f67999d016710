use Rattle.node_pool.proofs.{Shared.refl, Fields.short_is}
use Rattle.node_pool.proofs.node.is_short_at.Goals as goal

pub returns : goal.returns
returns c = short_is c.args.store.now c.args.at c.get.result _ c.requires.inside c.get.ensures refl
