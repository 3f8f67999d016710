use Rattle.dual_diff.proofs.Shared.{arith, forest, expression_children}
use Rattle.dual_diff.proofs.reading.child_of.Goals as goal

pub child_id-requires-clause-within : goal.child_id-requires-clause-within
child_id-requires-clause-within c = omega (arith, expression_children c.args.parent (forest c.args.pool.now) c.requires.expression, c.requires.within)
