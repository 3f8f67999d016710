use Rattle.session_laws.proofs.EnoughLemmas.{circular_holds}
use Rattle.session_laws.proofs.laws.circular_lines_hold_their_name.Goals as goal

pub returns : goal.returns
returns c = λ room bits old before after line x store t reads. circular_holds room bits old before after line store t reads x
