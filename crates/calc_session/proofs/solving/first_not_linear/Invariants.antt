use Rattle.calc_session.proofs.{Shared.{forest}, SolvingLemmas.{AreLinearUpTo}}
use Rattle.calc_session.proofs.solving.first_not_linear.Given as goal

abbrev pub invariant-loop-at : goal.invariant-loop-at
invariant-loop-at l = AreLinearUpTo (forest l.pool) l.left l.right l.at
