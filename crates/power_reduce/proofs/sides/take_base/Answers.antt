use Rattle.power_reduce.proofs.{Shared.{inl, arith, children_in}, Powers.{over_power, over_owned, base_taken, taken_alone, alone_front}}
use Rattle.power_reduce.proofs.sides.take_base.Goals as goal

pub take_child-base-requires-clause-within : goal.take_child-base-requires-clause-within
take_child-base-requires-clause-within c = omega (arith, children_in c.requires.stands (over_power c.requires.handed c.requires.power))

pub release-requires-clause-releasable : goal.release-requires-clause-releasable
release-requires-clause-releasable c = inl (base_taken (over_power c.requires.handed c.requires.power) (c.take_child-base.ensures.last c.requires.handed.root)).over.root

pub returns-clause-gives : goal.returns-clause-gives
returns-clause-gives c =
    let o = over_power c.requires.handed c.requires.power in
    let a = base_taken o (c.take_child-base.ensures.last c.requires.handed.root) in
    taken_alone o a (c.release.ensures.owned (over_owned a.over))

pub returns-clause-front : goal.returns-clause-front
returns-clause-front c =
    let a = base_taken (over_power c.requires.handed c.requires.power) (c.take_child-base.ensures.last c.requires.handed.root) in
    alone_front a (c.release.ensures.owned (over_owned a.over))
