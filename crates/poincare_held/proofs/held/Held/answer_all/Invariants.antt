use Rattle.poincare_held.proofs.{Shared.{length}, AnsweringLemmas.{IsUnderWay}}
use Rattle.poincare_held.proofs.held.Held.answer_all.Given as goal

abbrev pub invariant-loop-line : goal.invariant-loop-line
invariant-loop-line l = IsUnderWay l.fn.lines l.fn.self l.fn.page l.rest l.self l.page

abbrev pub decreases-loop-line : goal.decreases-loop-line
decreases-loop-line l = length l.rest
