use Rattle.calc_commands.proofs.Lines.{once}
use Rattle.calc_commands.proofs.laws.command_lines_ask_once.Goals as goal

pub returns : goal.returns
returns c = once
