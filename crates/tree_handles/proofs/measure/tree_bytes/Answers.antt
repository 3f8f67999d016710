use Rattle.tree_handles.proofs.{Shared.{sym, ◌∙◌, tree_at, forest}, Copying.tree_here, Parts.live_node, Plains.size-plain}
use Rattle.tree_handles.proofs.measure.tree_bytes.Goals as goal

pub locate-from-requires : goal.locate-from-requires
locate-from-requires c = live_node c.args.id c.args.pool.now c.requires.stands c.requires.live

pub returns : goal.returns
returns c =
    let t = tree_here c.args.id c.locate-from.result c.behind.result c.args.pool.now c.requires.stands c.requires.live
    (record { start = c.locate-from.ensures.value; boundary = c.behind.ensures.boundary; rest = c.behind.ensures.rest }) in
    record { value = t.size; plain = λ h. t.size ∙ sym (size-plain (tree_at c.args.id (forest c.args.pool.now)) t.one h.whole) }
