use Rattle.power_reduce.proofs.{Shared.{inl, arith, children_in}, Powers.{over_power, over_owned, base_taken, exponent_taken, sides_taken, sides_front}}
use Rattle.power_reduce.proofs.sides.take_sides.Goals as goal

pub take_child-base-requires-clause-within : goal.take_child-base-requires-clause-within
take_child-base-requires-clause-within c = omega (arith, children_in c.requires.stands (over_power c.requires.handed c.requires.power))

pub take_child-exponent-requires-clause-within : goal.take_child-exponent-requires-clause-within
take_child-exponent-requires-clause-within c =
    let a = base_taken (over_power c.requires.handed c.requires.power) (c.take_child-base.ensures.last c.requires.handed.root) in
    omega (arith, children_in c.take_child-base.ensures.stands a.over)

pub release-requires-clause-releasable : goal.release-requires-clause-releasable
release-requires-clause-releasable c =
    let a = base_taken (over_power c.requires.handed c.requires.power) (c.take_child-base.ensures.last c.requires.handed.root) in
    inl (exponent_taken a.over (c.take_child-exponent.ensures.last a.over.root)).over.root

pub returns-clause-gives : goal.returns-clause-gives
returns-clause-gives c =
    let o = over_power c.requires.handed c.requires.power in
    let a = base_taken o (c.take_child-base.ensures.last c.requires.handed.root) in
    let b = exponent_taken a.over (c.take_child-exponent.ensures.last a.over.root) in
    sides_taken o a b (c.release.ensures.owned (over_owned b.over))

pub returns-clause-front : goal.returns-clause-front
returns-clause-front c =
    let a = base_taken (over_power c.requires.handed c.requires.power) (c.take_child-base.ensures.last c.requires.handed.root) in
    let b = exponent_taken a.over (c.take_child-exponent.ensures.last a.over.root) in
    sides_front a b (c.release.ensures.owned (over_owned b.over))
