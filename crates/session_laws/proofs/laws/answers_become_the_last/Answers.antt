use Rattle.session_laws.proofs.LastAnswers.{last_shown, last_stored}
use Rattle.session_laws.proofs.laws.answers_become_the_last.Goals as goal

pub returns-clause-shown : goal.returns-clause-shown
returns-clause-shown c = last_shown

pub returns-clause-stored : goal.returns-clause-stored
returns-clause-stored c = λ room bits old new before after line t x. last_stored room bits old new before after line t x
