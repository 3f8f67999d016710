use Rattle.session_laws.proofs.LargeTrees.{large_behind, large_first}
use Rattle.session_laws.proofs.laws.sessions_hold_no_small_tree.Goals as goal

pub returns-clause-at_first : goal.returns-clause-at_first
returns-clause-at_first c = large_first

pub returns-clause-behind_a_line : goal.returns-clause-behind_a_line
returns-clause-behind_a_line c = λ room bits old new before after line reply held large. large_behind room bits old new before after line held large reply
