use Rattle.number_forms.proofs.Shared.{expression}
use Rattle.number_forms.proofs.roots.is_num_one.Goals as goal

pub is_num_one-requires-clause-expression : goal.is_num_one-requires-clause-expression
is_num_one-requires-clause-expression c = expression c.id.ensures c.requires.stands c.requires.handed
