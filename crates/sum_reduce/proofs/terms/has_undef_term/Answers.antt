use Rattle.sum_reduce.proofs.Sums.{sum_expression}
use Rattle.sum_reduce.proofs.terms.has_undef_term.Goals as goal

pub has_undefined_child-requires-clause-expression : goal.has_undefined_child-requires-clause-expression
has_undefined_child-requires-clause-expression c = sum_expression c.id.ensures c.requires.stands c.requires.sum
