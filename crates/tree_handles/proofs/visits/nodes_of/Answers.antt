use Rattle.tree_handles.proofs.{Parts.live_node, Visiting.walk_of}
use Rattle.tree_handles.proofs.visits.nodes_of.Goals as goal

pub locate-requires : goal.locate-requires
locate-requires c = live_node c.args.id c.args.pool.now c.requires.stands c.requires.live

pub invariant_of-result : goal.invariant_of-result
invariant_of-result c = (c.locate.ensures.boundary, (walk_of c.args.id c.locate.result c.args.pool.now c.requires.stands c.requires.live c.locate.ensures.value).begins)

pub returns : goal.returns
returns c = (walk_of c.args.id c.locate.result c.args.pool.now c.requires.stands c.requires.live c.locate.ensures.value).shows
