use Rattle.node_pool.proofs.{Shared.{arith, refl, None, Some}, Fields.{kind_is}}
use Rattle.node_pool.proofs.node.kind_in.Goals as goal

pub returns-in-Some : goal.returns-in-Some
returns-in-Some c = kind_is c.args.front 0 _ (Some c.in-Some.kind) (omega arith) refl c.in-Some.ensures.exact

pub returns-in-None : goal.returns-in-None
returns-in-None c = kind_is c.args.front 0 _ None (omega arith) refl c.in-None.ensures.exact
