use Rattle.std.proofs.Common.{◌<◌, ◌+◌, None, ap, ◌∙◌, map, length}
use Rattle.linear_solve.proofs.{Shared.{err_from_is_err_and, length-map, cleared_pivot, entries_of, misfit_of, pivot_of}, Calculations.{each_more, each_stops}, RowLists.{mapped_push, read_row}}
use Rattle.linear_solve.proofs.Places.{below_mapped}
use Rattle.linear_solve.proofs.elimination.cleared_pivots.Goals as goal

pub returns-in_err-row-clause-overflow : goal.returns-in_err-row-clause-overflow
returns-in_err-row-clause-overflow c =
    let p = err_from_is_err_and c.from_residual.result c.from_residual.ensures.1 in
    let l : c.loop-other.other-index < length (map pivot_of c.args.pivots.now) = below_mapped (length-map c.args.pivots.now pivot_of) c.loop-other-test.true in
    let read = read_row pivot_of c.args.pivots.now c.loop-other.other-index c.other-item.result None c.loop-other-test.true c.other-item.is in
    rw (p.1, p.2) (each_stops (cleared_pivot c.args.name (entries_of c.args.pivot.now)) (map pivot_of c.args.pivots.now) c.loop-other.other-index None (map pivot_of c.loop-other.cleared.items) (misfit_of c.in_err-row.field-0.0)
    l c.loop-other.invariant.made (ap (cleared_pivot c.args.name (entries_of c.args.pivot.now)) read ∙ c.in_err-row.ensures.overflow))

pub loop-other-preserved : goal.loop-other-preserved
loop-other-preserved c =
    let l : c.loop-other.other-index < length (map pivot_of c.args.pivots.now) = below_mapped (length-map c.args.pivots.now pivot_of) c.loop-other-test.true in
    let read = read_row pivot_of c.args.pivots.now c.loop-other.other-index c.other-item.result None c.loop-other-test.true c.other-item.is in
    record {
      made = rw (mapped_push pivot_of c.push.new.self.items c.loop-other.cleared.items c.in_ok-row.row c.push.ensures.items) (each_more (cleared_pivot c.args.name (entries_of c.args.pivot.now)) (map pivot_of c.args.pivots.now) c.loop-other.other-index None (map pivot_of c.loop-other.cleared.items) (pivot_of c.in_ok-row.row)
          l c.loop-other.invariant.made (ap (cleared_pivot c.args.name (entries_of c.args.pivot.now)) read ∙ c.in_ok-row.ensures.ok));
      long = c.push.ensures.len ∙ ap (λ n. n + 1) c.loop-other.invariant.long;
    }
