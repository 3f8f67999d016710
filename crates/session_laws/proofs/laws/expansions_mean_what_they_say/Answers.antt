use Rattle.session_laws.proofs.ExpandedLines.{tells_expansion}
use Rattle.session_laws.proofs.laws.expansions_mean_what_they_say.Goals as goal

pub returns : goal.returns
returns c = λ room bits old before after line text told asked h. tells_expansion room bits old before after line text asked told h
