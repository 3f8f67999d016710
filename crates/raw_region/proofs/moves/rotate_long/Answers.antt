use Rattle.raw_region.proofs.{Shared.arith, Turns.rotated_is}
use Rattle.raw_region.proofs.moves.rotate_long.Goals as goal

pub returns-else-back-le-ROOM : goal.returns-else-back-le-ROOM
returns-else-back-le-ROOM c = grind (arith, rotated_is)
