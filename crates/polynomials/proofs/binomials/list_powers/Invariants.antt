use Rattle.polynomials.proofs.{Shared.{vec_capacity, summand_of}, PowerLists.{ArePowersIn}}
use Rattle.polynomials.proofs.binomials.list_powers.Given as goal

abbrev pub invariant-loop-k : goal.invariant-loop-k
invariant-loop-k l = ArePowersIn (summand_of l.term) (vec_capacity l.fn.powers) l.k l.powers.items (vec_capacity l.powers)
