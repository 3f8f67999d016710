use Rattle.calc_commands.proofs.Dumps.{dump_short}
use Rattle.calc_commands.proofs.laws.dumps_are_short.Goals as goal

pub returns : goal.returns
returns c = dump_short
