use Rattle.session_laws.proofs.ExpandedLines.{is_told}
use Rattle.session_laws.proofs.laws.polynomials_are_expanded.Goals as goal

pub returns : goal.returns
returns c = λ room bits old before after line reply t short a is narrow roomy calm h. is_told room bits old before after line a short reply h is narrow roomy calm
