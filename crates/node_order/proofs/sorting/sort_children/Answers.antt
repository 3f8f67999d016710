use Rattle.node_order.proofs.{Shared.{IsWhole, IsOnce, root_tree, forest, all-kids}, Arranged.{lone_child}}
use Rattle.node_order.proofs.sorting.sort_children.Goals as goal

pub returns-then-len-le1-clause-sorts : goal.returns-then-len-le1-clause-sorts
returns-then-len-le1-clause-sorts g c =
    let i = c.args.parent.now in
    let f = forest c.args.pool.now in
    lone_child i c.args.from c.children_from-len.result g.K.Keys.key_of f (all-kids IsOnce (root_tree i f) c.requires.handed.once) (all-kids IsWhole (root_tree i f) c.requires.handed.whole) c.children_from-len.ensures.all c.if-len-le1.true
