use Rattle.calc_commands.proofs.HelpLines.{IsHelpWritten}
use Rattle.calc_commands.proofs.help.write_help.Given as goal

abbrev pub invariant-loop-at : goal.invariant-loop-at
invariant-loop-at l = IsHelpWritten l.fn.text l.at l.text
