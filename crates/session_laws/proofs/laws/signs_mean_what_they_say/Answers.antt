use Rattle.session_laws.proofs.DecimalLines.{tells_sign_of}
use Rattle.session_laws.proofs.laws.signs_mean_what_they_say.Goals as goal

pub returns : goal.returns
returns c = λ room bits old before after line text told asked h. tells_sign_of room bits old before after line text asked told h
