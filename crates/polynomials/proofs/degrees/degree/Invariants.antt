use Rattle.polynomials.proofs.Shared.{take, HaveExponents, polynomial_of}
use Rattle.polynomials.proofs.degrees.degree.Given as goal

abbrev pub invariant-loop-term : goal.invariant-loop-term
invariant-loop-term l = HaveExponents l.degree (polynomial_of (take l.term-index l.terms))
