use Rattle.session_laws.proofs.HeldTrees.{held_along, held_behind, held_first}
use Rattle.session_laws.proofs.laws.held_along_chains.Goals as goal

pub returns-clause-at_first : goal.returns-clause-at_first
returns-clause-at_first c = held_first

pub returns-clause-behind_a_line : goal.returns-clause-behind_a_line
returns-clause-behind_a_line c = λ room bits old new before after line reply held step. held_behind room bits old new before after line held reply step

pub returns-clause-along : goal.returns-clause-along
returns-clause-along c = λ old new lines turns held chain. held_along lines old turns new held chain

pub returns-clause-from_words : goal.returns-clause-from_words
returns-clause-from_words c = λ words options breakers lines turns now asked chain. held_along lines _ turns now (held_first options.size) chain
