use Rattle.session_laws.proofs.{Shared.{refl, expand}, AskedLines.{commanded_reply}}
use Rattle.session_laws.proofs.laws.expansions_are_calculated.Goals as goal

pub returns : goal.returns
returns c = λ room bits old before after line text reply short asked h. commanded_reply room bits old before after line (expand text) refl asked short reply h
