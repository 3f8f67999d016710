use Rattle.number_forms.proofs.Shared.{expression}
use Rattle.number_forms.proofs.roots.is_rational.Goals as goal

pub is_rational-requires-clause-expression : goal.is_rational-requires-clause-expression
is_rational-requires-clause-expression c = expression c.id.ensures c.requires.stands c.requires.handed
