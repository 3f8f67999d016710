use Rattle.session_laws.proofs.EnoughLemmas.{not_full}
use Rattle.session_laws.proofs.laws.lines_with_room_are_never_full.Goals as goal

pub returns : goal.returns
returns c = λ room bits old before after line reply store t reads bytes roomy. not_full room bits old before after line store t reads bytes roomy reply
