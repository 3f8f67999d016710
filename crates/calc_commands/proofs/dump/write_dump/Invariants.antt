use Rattle.calc_commands.proofs.Dumps.{IsWritten}
use Rattle.calc_commands.proofs.dump.write_dump.Given as goal

abbrev pub invariant-loop-at : goal.invariant-loop-at
invariant-loop-at l = IsWritten l.fn.text l.bytes l.at l.text
