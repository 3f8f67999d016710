use Rattle.session_laws.proofs.{Shared.{refl}, AskedLines.{commanded_reply}}
use Rattle.calc_commands.specs.Commands.{decimals, sign}
use Rattle.session_laws.proofs.laws.decimals_are_calculated.Goals as goal

pub returns : goal.returns
returns c = record {
  decimals = λ room bits old before after line text places reply short asked h. commanded_reply room bits old before after line (decimals places text) refl asked short reply h;
  signs = λ room bits old before after line text reply short asked h. commanded_reply room bits old before after line (sign text) refl asked short reply h;
}
