use Rattle.session_laws.proofs.ExpandedLines.{is_denied}
use Rattle.session_laws.proofs.laws.other_trees_are_not_expanded.Goals as goal

pub returns : goal.returns
returns c = λ room bits old before after line reply t short a h. is_denied room bits old before after line a short reply h
