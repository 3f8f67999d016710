use Rattle.std.proofs.Common.{◌<◌, length, Ok, Err, sym}
use Rattle.linear_solve.proofs.{Shared.{err_from_is_err_and, Fraction, value_of, sum_of, entries_of, misfit_of}, Entries.{add_told, longer, pair_all, pair_more, pair_stops}}
use Rattle.linear_solve.proofs.Places.{below_first, below_second, past_min}
use Rattle.linear_solve.proofs.row.Row.plus.Goals as goal

pub returns-in_err-sum-clause-overflow : goal.returns-in_err-sum-clause-overflow
returns-in_err-sum-clause-overflow g c =
    let p = err_from_is_err_and c.from_residual.result c.from_residual.ensures.1 in
    let e = c.in_err-sum.field-0.0 in
    let l : c.loop-at.at < length (entries_of c.args.self.now) = below_first c.min-at-end.ensures c.len.ensures.value c.len-2.ensures.value c.loop-at-test.true in
    let k : c.loop-at.at < length (entries_of c.args.other.now) = below_second c.min-at-end.ensures c.len.ensures.value c.len-2.ensures.value c.loop-at-test.true in
    rw (p.1, p.2) (pair_stops (λ (p : Fraction × Fraction). sum_of p.0 p.1) (entries_of c.args.self.now) (entries_of c.args.other.now) c.loop-at.at (entries_of c.loop-at.sums) (value_of c.get.result) (value_of c.get-in-loop-at.result) (misfit_of e)
    l k c.get.ensures c.get-in-loop-at.ensures c.loop-at.invariant.made
    (sym (add_told c.get.result c.get-in-loop-at.result (Err e) c.in_err-sum.ensures.sum c.in_err-sum.ensures.refused c.in_err-sum.ensures.named)))

pub loop-at-preserved : goal.loop-at-preserved
loop-at-preserved g c =
    let l : c.loop-at.at < length (entries_of c.args.self.now) = below_first c.min-at-end.ensures c.len.ensures.value c.len-2.ensures.value c.loop-at-test.true in
    let k : c.loop-at.at < length (entries_of c.args.other.now) = below_second c.min-at-end.ensures c.len.ensures.value c.len-2.ensures.value c.loop-at-test.true in
    record {
      made = rw c.push.ensures (pair_more (λ (p : Fraction × Fraction). sum_of p.0 p.1) (entries_of c.args.self.now) (entries_of c.args.other.now) c.loop-at.at (entries_of c.loop-at.sums) (value_of c.get.result) (value_of c.get-in-loop-at.result) (value_of c.in_ok-sum.sum)
          l k c.get.ensures c.get-in-loop-at.ensures c.loop-at.invariant.made
          (sym (add_told c.get.result c.get-in-loop-at.result (Ok c.in_ok-sum.sum) c.in_ok-sum.ensures.sum c.in_ok-sum.ensures.refused c.in_ok-sum.ensures.named)));
      long = longer _ _ _ c.loop-at.at c.push.ensures c.loop-at.invariant.long;
    }

pub returns-clause-ok : goal.returns-clause-ok
returns-clause-ok g c =
    pair_all (λ (p : Fraction × Fraction). sum_of p.0 p.1) (entries_of c.args.self.now) (entries_of c.args.other.now) c.loop-at.at (entries_of c.loop-at.sums)
    (past_min c.min-at-end.ensures c.len.ensures.value c.len-2.ensures.value c.loop-at-test.false) c.loop-at.invariant.made
