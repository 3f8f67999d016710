use Rattle.power_reduce.proofs.Shared.{arith, ◌≤◌, free_of, released_free, value_of, num, size, behind_first, front_same, front_at, front_without, front_after, owned}
use Rattle.power_reduce.proofs.sides.with_number.Goals as goal

pub unreachable-requires : goal.unreachable-requires
unreachable-requires c =
    let free = released_free c.requires.stands c.release.ensures.stands c.release.ensures.kept c.requires.handed (c.release.ensures.owned (owned c.requires.handed)) in
    let room : size (num (value_of c.args.q)) ≤ free_of c.release.new.pool = omega (arith, free, c.requires.room) in
    absurd (cc (c.in-Err.ensures.exactly.1 room))

pub returns-clause-front : goal.returns-clause-front
returns-clause-front c = front_after (front_at (front_without behind_first front_same) (c.release.ensures.owned (owned c.requires.handed))) c.number.ensures.front
