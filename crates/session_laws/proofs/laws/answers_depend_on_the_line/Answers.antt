use Rattle.session_laws.proofs.{Shared.{◌∙◌, sym}, DecidedAnswers.{are_told, one_text_of, settled_text, told_once}, ExpandedLines.{told_of}}
use Rattle.session_laws.proofs.laws.answers_depend_on_the_line.Goals as goal

pub returns-clause-plain : goal.returns-clause-plain
returns-clause-plain c = λ room bits a b before after first last line other store name t reply also reads reads_too known h k s s'.
    settled_text room bits a before after line store t reads known reply h s ∙ sym (settled_text room bits b first last other name t reads_too known also k s')

pub returns-clause-valued : goal.returns-clause-valued
returns-clause-valued c = one_text_of

pub returns-clause-solutions : goal.returns-clause-solutions
returns-clause-solutions c = λ room bits a b before after first last line other told also es asks asks_too h k.
    told_once es told also (are_told room bits a before after line asks told h) (are_told room bits b first last other asks_too also k)

pub returns-clause-expansions : goal.returns-clause-expansions
returns-clause-expansions c = λ room bits a b before after first last line other told also t asks asks_too h k.
    told_of room bits a before after line asks told h ∙ sym (told_of room bits b first last other asks_too also k)
