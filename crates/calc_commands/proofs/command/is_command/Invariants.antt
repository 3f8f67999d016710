use Rattle.calc_commands.proofs.Shared.{◌≡◌, drop, is_command}
use Rattle.calc_commands.proofs.command.is_command.Given as goal

abbrev pub invariant-loop-byte : goal.invariant-loop-byte
invariant-loop-byte l = is_command (drop l.byte-index l.line) ≡ is_command l.line
