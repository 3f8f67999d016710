use Rattle.polynomials.proofs.{Shared.{vec_capacity}, Causes.{IsCopied}}
use Rattle.polynomials.proofs.merging.copy_below.Given as goal

abbrev pub invariant-loop-at : goal.invariant-loop-at
invariant-loop-at l = IsCopied l.fn.list.items l.terms l.limit (vec_capacity l.fn.list) l.at l.list.items (vec_capacity l.list)
