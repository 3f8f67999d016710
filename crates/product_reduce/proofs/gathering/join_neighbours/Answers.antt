use Rattle.product_reduce.proofs.Shared.{arith, behind_first, front_end, front_without, represents_handed, ends_as}
use Rattle.product_reduce.proofs.gathering.join_neighbours.Goals as goal

pub returns-clause-ok : goal.returns-clause-ok
returns-clause-ok c = grind (arith, ends_as, represents_handed)

pub returns-clause-front : goal.returns-clause-front
returns-clause-front c = front_end c.move_last.ensures.last (front_without behind_first c.in_ok-join_pair.ensures.ok.front)
