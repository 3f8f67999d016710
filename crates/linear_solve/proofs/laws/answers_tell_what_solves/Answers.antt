use Rattle.linear_solve.proofs.Theorem.{forms_are_later}
use Rattle.linear_solve.proofs.laws.answers_tell_what_solves.Goals as goal

pub returns-clause-later_free : goal.returns-clause-later_free
returns-clause-later_free c = λ xs es forms d l e. forms_are_later xs es d l forms e
