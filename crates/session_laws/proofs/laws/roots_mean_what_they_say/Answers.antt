use Rattle.session_laws.proofs.RootLines.{tells_roots}
use Rattle.session_laws.proofs.laws.roots_mean_what_they_say.Goals as goal

pub returns : goal.returns
returns c = λ room bits old before after line x text told asked h. tells_roots room bits old before after line x text asked told h
