use Rattle.linear_solve.proofs.{Shared.{◌<◌, lit<, length, map, ap, arith, length-map, cleared_pivot, entries_of, pivot_of}, Calculations.{each_long}}
use Rattle.linear_solve.proofs.elimination.Elimination.settle_by.Goals as goal

pub push-requires : goal.push-requires
push-requires c =
    let long = each_long (cleared_pivot c.args.name (entries_of c.in_ok-pivot.pivot)) (map pivot_of c.as_slice-2.result.now) (map pivot_of c.in_ok-pivots.pivots.items) c.in_ok-pivots.ensures.ok in
    let room : length c.in_ok-pivots.pivots.items < 6 = omega
    (arith, long, length-map c.in_ok-pivots.pivots.items pivot_of, ap (λ xs. length (map pivot_of xs)) c.as_slice-2.ensures.value, c.requires.room) in
    (lit< tt, room)

pub returns-clause-one_more : goal.returns-clause-one_more
returns-clause-one_more c =
    let long = each_long (cleared_pivot c.args.name (entries_of c.in_ok-pivot.pivot)) (map pivot_of c.as_slice-2.result.now) (map pivot_of c.in_ok-pivots.pivots.items) c.in_ok-pivots.ensures.ok in
    omega (arith, long, length-map c.in_ok-pivots.pivots.items pivot_of, length-map c.push.new.self.items pivot_of, ap (λ xs. length (map pivot_of xs)) c.as_slice-2.ensures.value, c.push.ensures.len)
