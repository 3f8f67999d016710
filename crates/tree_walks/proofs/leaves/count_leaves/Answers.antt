use Rattle.tree_walks.proofs.{Shared.{rules, ◌∙◌, sym, ap, arith, length, name_of, tree_at, forest, few_in}, LeafLists.few_leaves, Searches.{looking, looked, looked_all}}
use Rattle.tree_walks.proofs.leaves.count_leaves.Goals as goal

pub loop-node-init : goal.loop-node-init
loop-node-init c = (_, looking c.args.id (name_of c.args.name) c.requires.stands (cc), omega arith)

pub is_leaf_of-requires : goal.is_leaf_of-requires
is_leaf_of-requires c =
    let facts = looked c.loop-node.invariant.1 c.in-Some.ensures.steps in
    record { live = facts.live; kind = facts.kind; stands = search rules }

pub overflow_add-count : goal.overflow_add-count
overflow_add-count c = omega (arith, few_leaves (name_of c.args.name) (tree_at c.args.id (forest c.args.pool.now)), few_in c.args.id c.args.pool.now c.requires.stands, c.loop-node.invariant.2)

pub loop-node-preserved-then-is_leaf_of : goal.loop-node-preserved-then-is_leaf_of
loop-node-preserved-then-is_leaf_of c =
    let h = (looked c.loop-node.invariant.1 c.in-Some.ensures.steps).here (sym c.is_leaf_of.ensures ∙ c.if-is_leaf_of.true) in
    (h.0, h.2, omega (arith, ap length h.1, c.loop-node.invariant.2))

pub loop-node-preserved : goal.loop-node-preserved
loop-node-preserved c = (_, (looked c.loop-node.invariant.1 c.in-Some.ensures.steps).other (sym c.is_leaf_of.ensures ∙ c.if-is_leaf_of.false), c.loop-node.invariant.2)

pub returns-clause-value : goal.returns-clause-value
returns-clause-value c = omega (arith, ap length (looked_all c.loop-node.invariant.1 c.in-None.ensures.steps.0), c.loop-node.invariant.2)

pub returns-clause-few : goal.returns-clause-few
returns-clause-few c = omega (arith, few_leaves (name_of c.args.name) (tree_at c.args.id (forest c.args.pool.now)), few_in c.args.id c.args.pool.now c.requires.stands, c.loop-node.invariant.2)
