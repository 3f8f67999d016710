use Rattle.power_reduce.proofs.Shared.{rules, refl, arith, forest, refused_below, passed_on, given_handed, given_told, as_before, none_given, none_kept, refuses_after, LacksBytes, Refuses}
use Rattle.power_reduce.proofs.Raising.{power_told, hole_of_power, raised_one, raised_front}
use Rattle.power_reduce.proofs.rewriting.raise_factor.Goals as goal

pub open_child-hole-requires : goal.open_child-hole-requires
open_child-hole-requires c = record { stands = search rules; handed = c.requires.first; within = c.requires.within }

pub node_over_two-requires : goal.node_over_two-requires
node_over_two-requires c =
    let b = as_before c.open_child-hole.ensures.hole c.open_child-hole.ensures.child c.requires.apart c.requires.second in
    record { stands = search rules; takes = refl; first = given_handed c.open_child-hole.ensures.child; second = b.handed; apart = b.apart }

pub returns-in_err-power-clause-room : goal.returns-in_err-power-clause-room
returns-in_err-power-clause-room c =
    passed_on c.from_residual.result c.in_err-power.field-0.0 _ c.from_residual.ensures.0 c.from_residual.ensures.1 (omega (arith, refused_below c.in_err-power.ensures.full, c.open_child-hole.ensures.free))

pub fill-requires : goal.fill-requires
fill-requires c =
    let g = c.in_ok-power.ensures.ok in
    record { stands = search rules; hole = (_, _, _, hole_of_power c.args.exponent c.open_child-hole.ensures.hole c.requires.apart g); handed = given_handed g }

pub returns-clause-ok : goal.returns-clause-ok
returns-clause-ok c =
    let o = c.open_child-hole.ensures.hole in
    let child = c.open_child-hole.ensures.child in
    let g = c.in_ok-power.ensures.ok in
    raised_one c.args.exponent c.args.at (forest c.args.pool.now) c.requires.apart (c.fill.ensures.changed _ _ _ (hole_of_power c.args.exponent o c.requires.apart g))
    (power_told (as_before o child c.requires.apart c.requires.second) (given_told child) g)

pub returns-clause-front : goal.returns-clause-front
returns-clause-front c = raised_front (c.fill.ensures.changed _ _ _ (hole_of_power c.args.exponent c.open_child-hole.ensures.hole c.requires.apart c.in_ok-power.ensures.ok))

pub returns-in_err-power-clause-ok : goal.returns-in_err-power-clause-ok
returns-in_err-power-clause-ok c = none_given c.from_residual.result _ c.from_residual.ensures.0

pub returns-in_err-power-clause-kept : goal.returns-in_err-power-clause-kept
returns-in_err-power-clause-kept c = none_kept c.from_residual.result _ c.from_residual.ensures.0

pub returns-in_err-power-clause-full : goal.returns-in_err-power-clause-full
returns-in_err-power-clause-full c = passed_on c.from_residual.result c.in_err-power.field-0.0 (Refuses c.args.pool.now c.node_over_two.new.pool) c.from_residual.ensures.0 c.from_residual.ensures.1 (refuses_after c.open_child-hole.ensures.kept c.in_err-power.ensures.full.refuses)

pub returns-in_err-power-clause-caused : goal.returns-in_err-power-clause-caused
returns-in_err-power-clause-caused c = passed_on c.from_residual.result c.in_err-power.field-0.0 (LacksBytes c.node_over_two.new.pool) c.from_residual.ensures.0 c.from_residual.ensures.1 c.in_err-power.ensures.full.lacks

pub returns-in_err-power-clause-stands : goal.returns-in_err-power-clause-stands
returns-in_err-power-clause-stands c = c.node_over_two.ensures.stands
