use Rattle.dual_diff.proofs.{Shared.{◌≤◌, arith, free_of, bytes_in, tree_at, forest, size-plain, one_at}, Added.{places_one}}
use Rattle.dual_diff.proofs.placer.PlacerWriter.copy.Goals as goal

pub returns : goal.returns
returns c = places_one c.requires.stands (record { gives = c.in-Ok.ensures.given c.requires.expression; kept = c.in-Ok.ensures.kept; stands = c.in-Ok.ensures.stands })

pub unreachable-requires : goal.unreachable-requires
unreachable-requires c =
    let t = tree_at c.args.source (forest c.args.pool.now) in
    let room : bytes_in t ≤ free_of c.args.pool.now =
    omega (arith, c.requires.room, size-plain t (one_at c.args.source (forest c.args.pool.now) c.requires.expression.live) c.requires.expression.whole) in
    absurd (cc (c.in-Err.ensures.exactly.1 room))
