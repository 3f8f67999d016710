use Rattle.node_pool.proofs.Fields.{opened}
use Rattle.node_pool.proofs.buffer.Buffer.count.Goals as goal

pub returns : goal.returns
returns c = (opened c.self.inside c.args.self.now c.self.invariant c.self.view_is).count
