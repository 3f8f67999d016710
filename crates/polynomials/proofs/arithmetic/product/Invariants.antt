use Rattle.polynomials.proofs.{Shared.{min, vec_capacity}, Causes.{IsProductIn}}
use Rattle.polynomials.proofs.arithmetic.product.Given as goal

abbrev pub invariant-loop-term : goal.invariant-loop-term
invariant-loop-term l = IsProductIn l.a l.b (min (vec_capacity l.fn.list) (vec_capacity l.fn.spare)) l.term-index l.list.items (min (vec_capacity l.list) (vec_capacity l.spare))
