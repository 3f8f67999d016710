use Rattle.tree_walks.proofs.{Shared.{rules, ◌∙◌, sym, ap, arith, refl, length, name_of, names, plain, tree_at, forest, one_at}, LeafLists.leaves_plain}
use Rattle.tree_walks.proofs.Searches.{looking, looked, looked_all, counted, uncounted}
use Rattle.tree_walks.proofs.searching.holds_name.Goals as goal

pub loop-node-init : goal.loop-node-init
loop-node-init c = looking c.args.id (name_of c.args.name) c.requires.stands (cc)

pub is_leaf_of-requires : goal.is_leaf_of-requires
is_leaf_of-requires c =
    let facts = looked c.loop-node.invariant c.in-Some.ensures.steps in
    record { live = facts.live; kind = facts.kind; stands = search rules }

pub returns-then-is_leaf_of : goal.returns-then-is_leaf_of
returns-then-is_leaf_of c =
    let t = tree_at c.args.id (forest c.args.pool.now) in
    let some = (looked c.loop-node.invariant c.in-Some.ensures.steps).here (sym c.is_leaf_of.ensures ∙ c.if-is_leaf_of.true) in
    (λ h. counted (name_of c.args.name) (names (plain t)) (omega (arith, ap length some.1, leaves_plain (name_of c.args.name) t (one_at c.args.id (forest c.args.pool.now) c.requires.expression.live) c.requires.expression.whole)), λ h. refl)

pub loop-node-preserved : goal.loop-node-preserved
loop-node-preserved c = (looked c.loop-node.invariant c.in-Some.ensures.steps).other (sym c.is_leaf_of.ensures ∙ c.if-is_leaf_of.false)

pub returns : goal.returns
returns c =
    let t = tree_at c.args.id (forest c.args.pool.now) in
    let zero = looked_all c.loop-node.invariant c.in-None.ensures.steps.0 in
    (λ h. absurd cc, λ h. absurd (omega (arith, uncounted (name_of c.args.name) (names (plain t)) h, ap length zero, leaves_plain (name_of c.args.name) t (one_at c.args.id (forest c.args.pool.now) c.requires.expression.live) c.requires.expression.whole)))
