use Rattle.node_pool.proofs.{Shared.{◌+◌, ◌∙◌, ap, put}, Numbers.written_is}
use Rattle.node_pool.proofs.node.write_children.Goals as goal

pub returns : goal.returns
returns c = c.write.ensures ∙ ap (put c.args.store.now (c.args.at + 6)) (c.to_le_bytes.ensures ∙ written_is 2 c.args.children)
