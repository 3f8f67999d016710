use Rattle.calc_commands.proofs.{HelpLines.{in_table}, Lines.{begins_word_of}}
use Rattle.calc_commands.proofs.laws.every_word_is_told.Goals as goal

pub returns : goal.returns
returns c = record { words = in_table; commands = begins_word_of }
