use Rattle.polynomials.proofs.{Shared.{vec_capacity}, Causes.{IsMergedIn}}
use Rattle.polynomials.proofs.merging.add_multiple.Given as goal

abbrev pub invariant-loop-term : goal.invariant-loop-term
invariant-loop-term l = IsMergedIn l.sum l.terms l.factor (vec_capacity l.fn.list) l.term-index l.list.items l.rest (vec_capacity l.list)
