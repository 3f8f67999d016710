use Rattle.power_reduce.proofs.{Shared.{arith}, Powers.{two_sides, side_is}}
use Rattle.power_reduce.proofs.sides.base_id.Goals as goal

pub child_id-requires-clause-within : goal.child_id-requires-clause-within
child_id-requires-clause-within c = omega (arith, two_sides c.requires.stands c.requires.handed c.requires.power c.id.ensures)

pub returns-clause-tree : goal.returns-clause-tree
returns-clause-tree c = side_is _ 0 c.requires.stands c.requires.handed c.requires.power c.id.ensures c.child_id.ensures.plain
