use Rattle.node_order.proofs.{Shared.{◌∙◌, length, sym, ap, arith, tree_at, forest, nodes-flatten, one_at, arity_le, visits_length}, Pairs.{shows_tree}}
use Rattle.node_order.proofs.fronts.Front.of.Goals as goal

pub first-requires : goal.first-requires
first-requires c =
    let t = tree_at c.args.id (forest c.args.pool.now) in
    omega (arith, ap length c.nodes_of.ensures, visits_length t, one_at c.args.id (forest c.args.pool.now) c.requires.tree.live, arity_le t, nodes-flatten t)

pub returns : goal.returns
returns c = shows_tree c.requires.stands c.requires.tree (sym c.nodes_of.ensures ∙ c.first.ensures)
