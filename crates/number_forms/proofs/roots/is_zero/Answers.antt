use Rattle.number_forms.proofs.Shared.{expression}
use Rattle.number_forms.proofs.roots.is_zero.Goals as goal

pub is_zero-requires-clause-expression : goal.is_zero-requires-clause-expression
is_zero-requires-clause-expression c = expression c.id.ensures c.requires.stands c.requires.handed
