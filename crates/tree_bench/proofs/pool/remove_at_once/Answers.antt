use Rattle.node_pool.proofs.Walk.{starts}
use Rattle.tree_bench.proofs.pool.remove_at_once.Goals as goal

pub remove_block-requires-clause-from : goal.remove_block-requires-clause-from
remove_block-requires-clause-from c = starts c.args.pool.now.nodes
