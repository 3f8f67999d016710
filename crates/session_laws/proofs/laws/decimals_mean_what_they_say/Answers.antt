use Rattle.session_laws.proofs.DecimalLines.{tells_decimal_of}
use Rattle.session_laws.proofs.laws.decimals_mean_what_they_say.Goals as goal

pub returns : goal.returns
returns c = λ room bits old before after line text told places asked h. tells_decimal_of room bits old before after line text places asked told h
