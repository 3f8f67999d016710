use Rattle.calc_commands.proofs.HelpLines.{help_fits}
use Rattle.calc_commands.proofs.laws.help_fits_a_screen.Goals as goal

pub returns : goal.returns
returns c = help_fits
