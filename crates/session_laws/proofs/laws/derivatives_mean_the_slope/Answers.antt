use Rattle.session_laws.proofs.SlopeLemmas.{tells_derivative}
use Rattle.session_laws.proofs.laws.derivatives_mean_the_slope.Goals as goal

pub returns : goal.returns
returns c = λ room bits old before after line x text told asked h. tells_derivative room bits old before after line x text asked told h
