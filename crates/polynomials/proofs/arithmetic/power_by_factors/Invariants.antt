use Rattle.polynomials.proofs.{Shared.{min, vec_capacity}, Causes.{IsPowerIn}}
use Rattle.polynomials.proofs.arithmetic.power_by_factors.Given as goal

abbrev pub invariant-loop-turn : goal.invariant-loop-turn
invariant-loop-turn l =
    IsPowerIn l.base (min (vec_capacity l.fn.list) (min (vec_capacity l.fn.spare) (vec_capacity l.fn.other))) l.turn l.list.items (min (vec_capacity l.list) (min (vec_capacity l.spare) (vec_capacity l.other)))
