use Rattle.tree_handles.proofs.{Shared.{refl, bare}, Fronts.{behind_first, front_same, front_end, front_without}}
use Rattle.tree_handles.proofs.{Given.{represents_none, represents_handed, represents_with, represents_node, gives}, Lasts.{last_held, last_apart, other_root}}
use Rattle.tree_handles.proofs.building.node_over.Goals as goal

pub add_child-requires-clause-live : goal.add_child-requires-clause-live
add_child-requires-clause-live c = last_held c.in_ok-over.ensures.ok

pub add_child-requires-clause-root : goal.add_child-requires-clause-root
add_child-requires-clause-root c = other_root c.args.child c.in_ok-over.ensures.ok c.requires.handed.root

pub add_child-requires-clause-apart : goal.add_child-requires-clause-apart
add_child-requires-clause-apart c = last_apart c.args.child c.in_ok-over.ensures.stands c.in_ok-over.ensures.ok c.requires.handed.root

pub returns-clause-ok : goal.returns-clause-ok
returns-clause-ok c =
    gives (c.add_child.ensures.last _ _ c.in_ok-over.ensures.ok c.requires.handed.root)
    (represents_node c.in_ok-over.over (bare c.args.kind) (represents_with 0 (represents_handed c.requires.handed) represents_none) c.requires.takes) refl

pub returns-clause-front : goal.returns-clause-front
returns-clause-front c = front_end (c.add_child.ensures.last _ _ c.in_ok-over.ensures.ok c.requires.handed.root) (front_without behind_first front_same)
