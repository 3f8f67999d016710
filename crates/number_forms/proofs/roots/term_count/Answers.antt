use Rattle.number_forms.proofs.Shared.{expression}
use Rattle.number_forms.proofs.roots.term_count.Goals as goal

pub term_count-requires-clause-expression : goal.term_count-requires-clause-expression
term_count-requires-clause-expression c = expression c.id.ensures c.requires.stands c.requires.handed
