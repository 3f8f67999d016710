use Rattle.raw_region.proofs.Shared.{◌≡◌, length, take}
use Rattle.std.proofs.Common.{drop}
use Rattle.raw_region.proofs.moves.load.Given as goal

abbrev pub invariant-loop-i : goal.invariant-loop-i
invariant-loop-i g l = record { loaded : take l.i l.run ≡ take l.i (drop l.at l.bytes); long : length l.run ≡ g.row.N }
