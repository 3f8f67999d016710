use Rattle.raw_region.proofs.Runs.{IsStored}
use Rattle.raw_region.proofs.moves.store.Given as goal

abbrev pub invariant-loop-i : goal.invariant-loop-i
invariant-loop-i g l = IsStored l.i l.at l.run l.fn.bytes l.bytes
