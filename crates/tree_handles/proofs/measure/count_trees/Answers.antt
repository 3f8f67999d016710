use Rattle.tree_handles.proofs.{Shared.{List, ap, arith, Node, starts, since-zero, arity, forest_of}, Counting.{one_fewer, none_left, few_trees}}
use Rattle.tree_handles.proofs.measure.count_trees.Goals as goal

pub loop-at-init : goal.loop-at-init
loop-at-init c = record { boundary = starts c.args.pool.now.nodes; sum = omega (arith, ap (λ (ns : List Node). arity (forest_of ns)) (since-zero c.args.pool.now.nodes)) }

pub overflow_add-trees : goal.overflow_add-trees
overflow_add-trees c =
    let fewer = one_fewer c.loop-at.at c.behind-at.result c.args.pool.now.nodes c.loop-at.invariant.boundary (omega (arith, c.used-end.ensures.value)) c.behind-at.ensures.rest in
    record { fits = omega (arith, fewer, c.loop-at.invariant.sum, few_trees c.args.pool.now c.requires) }

pub loop-at-smaller : goal.loop-at-smaller
loop-at-smaller c = omega (arith, one_fewer c.loop-at.at c.behind-at.result c.args.pool.now.nodes c.loop-at.invariant.boundary (omega (arith, c.used-end.ensures.value)) c.behind-at.ensures.rest)

pub loop-at-preserved : goal.loop-at-preserved
loop-at-preserved c =
    let fewer = one_fewer c.loop-at.at c.behind-at.result c.args.pool.now.nodes c.loop-at.invariant.boundary (omega (arith, c.used-end.ensures.value)) c.behind-at.ensures.rest in
    record { boundary = c.behind-at.ensures.boundary; sum = omega (arith, fewer, c.loop-at.invariant.sum) }

pub returns : goal.returns
returns c = omega (arith, c.loop-at.invariant.sum, none_left c.loop-at.at c.args.pool.now.nodes (omega (arith, c.used-end.ensures.value, c.loop-at-test.false)))
