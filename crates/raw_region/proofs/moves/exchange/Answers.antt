use Rattle.raw_region.proofs.Turns.{switched_is}
use Rattle.raw_region.proofs.moves.exchange.Goals as goal

pub returns : goal.returns
returns c =
    let parts = c.split_at_mut-front.ensures in
    switched_is c.args.bytes.now c.split_at_mut-front.result.0.now c.split_at_mut-front.result.1.now c.swap_with_slice.new.self c.swap_with_slice.new.other c.args.low c.args.high c.args.len c.requires.apart
    parts.front parts.back c.swap_with_slice.ensures.after c.swap_with_slice.ensures.other_after
