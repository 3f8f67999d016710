use Rattle.tree_handles.proofs.{Shared.forest, AtRoots.added_root, ChildPlaces.{placed, known_place}, Distinct.held_parent}
use Rattle.tree_handles.proofs.moving.add_before.Goals as goal

pub locate-to-requires : goal.locate-to-requires
locate-to-requires c = (placed c.requires.known.0 c.args.parent.now c.args.next c.args.pool.now c.requires.stands c.requires.known.1).live

pub add_at-requires-clause-live : goal.add_at-requires-clause-live
add_at-requires-clause-live c = held_parent c.requires.known.0 c.args.parent.now (forest c.args.pool.now) c.requires.known.1.within

pub add_at-requires-clause-place : goal.add_at-requires-clause-place
add_at-requires-clause-place c = (c.requires.known.0, known_place c.requires.known.0 c.args.parent.now c.args.next c.locate-to.result c.args.pool.now c.requires.stands c.requires.known.1 c.locate-to.ensures.value)

pub returns-clause-forest : goal.returns-clause-forest
returns-clause-forest c = λ n h. c.add_at.ensures.forest n (known_place n c.args.parent.now c.args.next c.locate-to.result c.args.pool.now c.requires.stands h c.locate-to.ensures.value)

pub returns-clause-root : goal.returns-clause-root
returns-clause-root c = λ n h. added_root c.args.parent.now n c.args.child c.args.pool.now c.add_at.new.pool c.requires.stands c.requires.root c.requires.apart
    (c.add_at.ensures.forest n (known_place n c.args.parent.now c.args.next c.locate-to.result c.args.pool.now c.requires.stands h c.locate-to.ensures.value))
