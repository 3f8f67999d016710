use Rattle.session_laws.proofs.{Shared.{refl, solve}, AskedLines.{commanded_reply}}
use Rattle.session_laws.proofs.laws.solutions_are_calculated.Goals as goal

pub returns : goal.returns
returns c = λ room bits old before after line text reply short asked h. commanded_reply room bits old before after line (solve text) refl asked short reply h
