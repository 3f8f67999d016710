use Rattle.session_laws.proofs.{Shared.{refl, diff}, AskedLines.{commanded_reply}}
use Rattle.session_laws.proofs.laws.derivatives_are_calculated.Goals as goal

pub returns : goal.returns
returns c = λ room bits old before after line x text reply short asked h. commanded_reply room bits old before after line (diff x text) refl asked short reply h
