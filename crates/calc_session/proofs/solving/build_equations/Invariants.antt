use Rattle.calc_session.proofs.BuiltSides.{AreBuilt}
use Rattle.calc_session.proofs.solving.build_equations.Given as goal

abbrev pub invariant-loop-range : goal.invariant-loop-range
invariant-loop-range l = AreBuilt l.table l.equations.before l.equations.text.now l.ranges l.fn.pool l.range-index l.pool l.roots.left.items l.roots.right.items
