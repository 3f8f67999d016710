use Rattle.poincare_c.proofs.SlotLemmas.{uses}
use Rattle.poincare_c.proofs.slot.Slot.pool.Goals as goal

pub returns-in-Open : goal.returns-in-Open
returns-in-Open c = uses c.args.self.now c.in-Open.held c.in-Open.is c.args.used.now c.args.left.now c.pool-pool.result c.pool-pool.ensures.value
