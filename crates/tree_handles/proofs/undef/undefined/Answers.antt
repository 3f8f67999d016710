use Rattle.tree_handles.proofs.{Given.owned, Shared.{arith, ◌≤◌, free_of, tree_of}, Fronts.{behind_first, front_same, front_at, front_without, front_after}, Room.{released_free, least_size}}
use Rattle.tree_handles.proofs.undef.undefined.Goals as goal

pub unreachable-requires : goal.unreachable-requires
unreachable-requires c =
    let free = released_free c.requires.stands c.release.ensures.stands c.release.ensures.kept c.requires.handed (c.release.ensures.owned (owned c.requires.handed)) in
    let room : 8 ≤ free_of c.release.new.pool = omega (arith, free, least_size (tree_of c.args.tree c.args.pool.now)) in
    absurd (cc (c.in-Err.ensures.exactly.1 room))

pub returns-clause-front : goal.returns-clause-front
returns-clause-front c = front_after (front_at (front_without behind_first front_same) (c.release.ensures.owned (owned c.requires.handed))) c.node.ensures.front
