use Rattle.session_laws.proofs.EquationLines.{tells_solutions}
use Rattle.session_laws.proofs.laws.solutions_mean_what_they_say.Goals as goal

pub returns : goal.returns
returns c = λ room bits old before after line text told asked h. tells_solutions room bits old before after line text asked told h
