use Rattle.calc_session.proofs.RangeLemmas.{AreReadUpTo}
use Rattle.calc_session.proofs.solving.read_sides.Given as goal

abbrev pub invariant-loop-range : goal.invariant-loop-range
invariant-loop-range l = AreReadUpTo l.before l.text l.ranges l.range-index
