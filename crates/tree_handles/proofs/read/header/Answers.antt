use Rattle.tree_handles.proofs.{Parts.live_node, Readings.told}
use Rattle.tree_handles.proofs.read.header.Goals as goal

pub locate-requires : goal.locate-requires
locate-requires c = live_node c.args.id c.args.pool.now c.requires.stands c.requires.live

pub returns : goal.returns
returns c =
    let t = told c.args.id c.locate.result c.args.pool.now c.header.result c.requires.stands c.requires.live c.locate.ensures.value c.header.ensures.value in
    record { kind = t.kind-is; count = t.count-is; children = t.children-are }
