use Rattle.session_laws.proofs.TypedAgain.{answered_again, typed_again}
use Rattle.session_laws.proofs.laws.a_number_typed_again.Goals as goal

pub returns-clause-a_tree : goal.returns-clause-a_tree
returns-clause-a_tree c = λ room bits a b before after line t reply p number. answered_again room bits a b before after line t p number reply

pub returns-clause-itself : goal.returns-clause-itself
returns-clause-itself c = λ room bits a b before after line t reply p number. typed_again room bits a b before after line t p number reply
