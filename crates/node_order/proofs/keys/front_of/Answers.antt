use Rattle.node_order.proofs.Shared.{◌-◌, ◌∙◌, length, sym, ap, arith, refl, rest_trees, kids_of, forest, arity-rest_trees, nodes-flatten, arity_le, visits_length}
use Rattle.node_order.proofs.KeyLaws.{key_some, shown_children, key_last, key_product}
use Rattle.node_order.proofs.keys.front_of.Goals as goal

pub nodes_below-factors-requires-clause-within : goal.nodes_below-factors-requires-clause-within
nodes_below-factors-requires-clause-within c = omega (arith, key_some c.args.key (forest c.args.pool.now) c.requires.key c.if-key-eq0.false)

pub overflow_sub-children : goal.overflow_sub-children
overflow_sub-children c = omega (arith, key_some c.args.key (forest c.args.pool.now) c.requires.key c.if-key-eq0.false, shown_children c.requires.key.tree c.of-whole.ensures)

pub first-requires : goal.first-requires
first-requires c =
    let kids = kids_of c.args.key.id (forest c.args.pool.now) in
    let rest = rest_trees c.args.key.behind kids in
    omega (arith, key_some c.args.key (forest c.args.pool.now) c.requires.key c.if-key-eq0.false, arity-rest_trees c.args.key.behind kids, arity_le rest, nodes-flatten rest, visits_length rest, ap length c.nodes_below-factors.ensures)

pub returns-then-children-eq1 : goal.returns-then-children-eq1
returns-then-children-eq1 c =
    key_last c.requires.stands c.requires.key c.if-key-eq0.false (ap (λ n. n - c.args.key.behind) (sym (shown_children c.requires.key.tree c.of-whole.ensures)) ∙ c.if-children-eq1.true) (sym c.nodes_below-factors.ensures ∙ c.first.ensures)

pub returns : goal.returns
returns c =
    key_product c.requires.stands c.requires.key c.if-key-eq0.false
    (λ e. c.if-children-eq1.false (ap (λ n. n - c.args.key.behind) (shown_children c.requires.key.tree c.of-whole.ensures) ∙ e)) c.of-whole.ensures refl c.nodes_below-factors.ensures
