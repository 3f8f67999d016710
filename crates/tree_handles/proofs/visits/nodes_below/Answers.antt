use Rattle.tree_handles.proofs.{Parts.live_node, Shared.{◌-◌, ◌∙◌, ℕ, ap, subst, sym, rest_trees, kids_of, forest}, Visiting.{IsWalk, walk_below}, visits.nodes_below.Goals.{After-from}}
use Rattle.tree_handles.proofs.visits.nodes_below.Goals as goal

pub child_place-requires : goal.child_place-requires
child_place-requires c = record { live = live_node c.args.parent c.args.pool.now c.requires.stands c.requires.live }

walk : (c : After-from) → IsWalk c.from.result c.child_place.result (rest_trees c.args.from (kids_of c.args.parent (forest c.args.pool.now))) c.args.pool.now.nodes
walk c =
    subst (λ (n : ℕ). IsWalk n c.child_place.result (rest_trees c.args.from (kids_of c.args.parent (forest c.args.pool.now))) c.args.pool.now.nodes)
    (sym (c.from.ensures ∙ ap (λ (n : ℕ). n - c.args.from) c.children.ensures.value))
    (walk_below c.args.parent c.args.from c.child_place.result c.args.pool.now c.requires.stands c.requires.live c.requires.within c.child_place.ensures.boundary c.child_place.ensures.rest)

pub invariant_of-result : goal.invariant_of-result
invariant_of-result c = (c.child_place.ensures.boundary, (walk c).begins)

pub returns : goal.returns
returns c = (walk c).shows
