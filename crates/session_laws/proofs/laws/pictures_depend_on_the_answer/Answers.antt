use Rattle.session_laws.proofs.DecidedAnswers.{one_layout, one_picture}
use Rattle.session_laws.proofs.laws.pictures_depend_on_the_answer.Goals as goal

pub returns-clause-layouts : goal.returns-clause-layouts
returns-clause-layouts c = one_layout

pub returns-clause-pictures : goal.returns-clause-pictures
returns-clause-pictures c = one_picture
