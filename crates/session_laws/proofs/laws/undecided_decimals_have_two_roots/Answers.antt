use Rattle.session_laws.proofs.DecimalLines.{has_two_roots}
use Rattle.session_laws.proofs.laws.undecided_decimals_have_two_roots.Goals as goal

pub returns : goal.returns
returns c = λ room bits old before after line text places short asked h. has_two_roots room bits old before after line text places asked short h
