use Rattle.sum_reduce.proofs.Sums.{sum_within}
use Rattle.sum_reduce.proofs.terms.term.Goals as goal

pub child_id-requires-clause-within : goal.child_id-requires-clause-within
child_id-requires-clause-within c = rw c.id.ensures (sum_within c.args.at c.requires.stands c.requires.sum c.requires.within)
