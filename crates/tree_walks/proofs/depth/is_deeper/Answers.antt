use Rattle.tree_walks.proofs.{Shared.{arith, plain, tree_at, forest, one_at, live_node, nodes-plain}, Shallow.{depth_within, nodes_behind}}
use Rattle.tree_walks.proofs.depth.is_deeper.Goals as goal

pub locate-requires : goal.locate-requires
locate-requires c = live_node c.args.id c.args.pool.now c.requires.stands c.requires.expression.live

pub overflow_sub-used : goal.overflow_sub-used
overflow_sub-used c = omega (arith, nodes_behind c.args.id c.locate.result c.used.result c.args.pool.now c.requires.stands c.requires.expression.live c.locate.ensures.value c.locate.ensures.boundary c.used.ensures.value)

pub returns-then-used-locate : goal.returns-then-used-locate
returns-then-used-locate c =
    let t = tree_at c.args.id (forest c.args.pool.now) in
    let few = nodes_behind c.args.id c.locate.result c.used.result c.args.pool.now c.requires.stands c.requires.expression.live c.locate.ensures.value c.locate.ensures.boundary c.used.ensures.value in
    let same = nodes-plain t (one_at c.args.id (forest c.args.pool.now) c.requires.expression.live) c.requires.expression.whole in
    (λ h. absurd cc, λ h. absurd (omega (arith, few, same, depth_within (plain t))))

pub returns-then-tree_nodes : goal.returns-then-tree_nodes
returns-then-tree_nodes c =
    let t = plain (tree_at c.args.id (forest c.args.pool.now)) in
    let few = c.tree_nodes.ensures.plain c.requires.expression in
    (λ h. absurd cc, λ h. absurd (omega (arith, few, depth_within t)))
