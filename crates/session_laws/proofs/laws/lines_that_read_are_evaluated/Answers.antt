use Rattle.session_laws.proofs.AskedLines.{evaluated}
use Rattle.session_laws.proofs.laws.lines_that_read_are_evaluated.Goals as goal

pub returns : goal.returns
returns c = λ room bits old before after line reply tokens store t reads h. evaluated room bits old before after line reads h
