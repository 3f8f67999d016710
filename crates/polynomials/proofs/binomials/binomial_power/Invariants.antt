use Rattle.polynomials.proofs.{Shared.{vec_capacity}, PowerLists.{AreMixedIn}}
use Rattle.polynomials.proofs.binomials.binomial_power.Given as goal

abbrev pub invariant-loop-k : goal.invariant-loop-k
invariant-loop-k l = AreMixedIn l.fn.first l.fn.second l.exponent (vec_capacity l.fn.list) l.k l.choices l.list.items (vec_capacity l.list)
