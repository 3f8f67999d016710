use Rattle.calc_session.proofs.Shared.{EquationRange, err_from_is_err_and, reason_of, at_left, at_right}
use Rattle.calc_session.proofs.RangeLemmas.{read_more, unread_at}
use Rattle.calc_session.proofs.solving.read_sides.Goals as goal

abbrev nowhere : EquationRange
nowhere = record { begin = 0; sign = 0; end = 0 }

pub returns-in_err-read_side : goal.returns-in_err-read_side
returns-in_err-read_side c =
    let p = err_from_is_err_and c.from_residual.result c.from_residual.ensures.1 in
    let err = c.in_err-read_side.ensures in
    record {
      read = rw p.1 tt;
      refused = rw (p.1, p.2) (unread_at c.args.before c.args.text.now c.args.ranges.now c.loop-range.range-index nowhere (reason_of c.in_err-read_side.field-0.0) c.loop-range.invariant c.loop-range-test.true (λ qs. at_left err.refused));
      no_pool = rw (p.1, p.2) err.no_pool;
      no_breaker = rw (p.1, p.2) err.no_breaker;
    }

pub returns-in_err-read_side-2 : goal.returns-in_err-read_side-2
returns-in_err-read_side-2 c =
    let p = err_from_is_err_and c.from_residual-in_err-read_side-2.result c.from_residual-in_err-read_side-2.ensures.1 in
    let err = c.in_err-read_side-2.ensures in
    let (t, a) = c.in_ok-read_side.ensures.read in
    record {
      read = rw p.1 tt;
      refused = rw (p.1, p.2) (unread_at c.args.before c.args.text.now c.args.ranges.now c.loop-range.range-index nowhere (reason_of c.in_err-read_side-2.field-0.0) c.loop-range.invariant c.loop-range-test.true (λ qs. at_right (_, a) err.refused));
      no_pool = rw (p.1, p.2) err.no_pool;
      no_breaker = rw (p.1, p.2) err.no_breaker;
    }

pub loop-range-preserved : goal.loop-range-preserved
loop-range-preserved c =
    let (t, a) = c.in_ok-read_side.ensures.read in
    let (u, b) = c.in_ok-read_side-2.ensures.read in
    read_more c.args.before c.args.text.now c.loop-range.range-index c.args.ranges.now nowhere (record { left = t; right = u }) c.loop-range-test.true c.loop-range.invariant (record { left = (_, a); right = (_, b) })
