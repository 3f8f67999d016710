use Rattle.tree_handles.proofs.{Parts.live_node, ChildPlaces.{AreListed, listed}, siblings.child_ids.Goals.After-children}
use Rattle.tree_handles.proofs.siblings.child_ids.Goals as goal

pub child_place-requires : goal.child_place-requires
child_place-requires c = record { live = live_node c.args.parent c.args.pool.now c.requires.stands c.requires.live }

all : (c : After-children) → AreListed c.args.parent c.args.from c.child_place.result c.args.pool.now
all c = listed c.args.parent c.args.from c.child_place.result c.args.pool.now c.requires.stands c.requires.live c.requires.within c.child_place.ensures.boundary c.child_place.ensures.rest

pub invariant_of-result : goal.invariant_of-result
invariant_of-result c = (c.child_place.ensures.boundary, rw c.children.ensures.value (all c).many)

pub returns : goal.returns
returns c = rw c.children.ensures.value (all c).ids
