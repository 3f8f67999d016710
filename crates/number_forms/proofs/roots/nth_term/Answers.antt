use Rattle.number_forms.proofs.Shared.{expression}
use Rattle.number_forms.proofs.roots.nth_term.Goals as goal

pub nth_term-requires-clause-expression : goal.nth_term-requires-clause-expression
nth_term-requires-clause-expression c = expression c.id.ensures c.requires.stands c.requires.handed
