use Rattle.session_laws.proofs.EnoughLemmas.{answered}
use Rattle.session_laws.proofs.laws.lines_are_answered.Goals as goal

pub returns : goal.returns
returns c = λ room bits old before after line reply store t reads shallow bytes roomy narrow calm. answered room bits old before after line store t reads bytes roomy shallow narrow calm reply
