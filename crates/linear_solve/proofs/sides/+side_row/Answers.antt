use Rattle.std.proofs.Common.{◌<◌, ◌≤◌, refl, length, map, sym, ap, ◌∙◌, subst, arith}
use Rattle.linear_solve.proofs.Shared.{length-map, CalmChecks-append, CalmChecks, states, name_of, count, nodes, StopsAfter, is_linear, row_checks, row_of, misfit_of, side_of, side_told, children_of}
use Rattle.linear_solve.proofs.{Shared.{nth, plain, tree_at, forest, one_calm, trips_after}, CheckCounts.{child_checks, child_checks_stop, child_checks_within, next_child_checks, own_check}}
use Rattle.linear_solve.proofs.{TreeLists.{fewer_nodes}, Walks.{child_linear, child_misfit, divisor_at, handed_on, next_made, none_made, overflow_as, own_made, own_misfit, stops_after}}
use Rattle.linear_solve.specs.declared.fault.SolveFault.TheVariants as fault
use Rattle.linear_solve.proofs.Places.{below_end, past_end}
use Rattle.linear_solve.proofs.sides.+side_row.Goals as goal

pub loop-at-init : goal.loop-at-init
loop-at-init g t c = record { rows = none_made (map name_of c.args.names.now) c.kind-kind.result (plain (tree_at c.args.t (forest c.args.pool.now))) (side_of c.set_bare_row.new.row) c.set_bare_row.ensures; checks = refl }

pub side_row-requires : goal.side_row-requires
side_row-requires g t c κs l =
    let within : c.loop-at.at < count (children_of (plain (tree_at c.args.t (forest c.args.pool.now)))) = below_end (c.children-at-end.ensures.plain c.requires.expression) c.loop-at-test.true in
    let child = c.child_id.ensures.plain c.requires.expression in (
      omega (arith, ap nodes child, fewer_nodes (plain (tree_at c.args.t (forest c.args.pool.now))) c.loop-at.at within, c.decreases),
      (l, (c.requires.stands, (c.child_id.ensures.expression c.requires.expression, (ap is_linear child ∙ child_linear (plain (tree_at c.args.t (forest c.args.pool.now))) c.loop-at.at c.requires.linear within, c.requires.names)))),
    )

pub returns-in_err-side_row-clause-overflow : goal.returns-in_err-side_row-clause-overflow
returns-in_err-side_row-clause-overflow g t c =
    let within : c.loop-at.at < count (children_of (plain (tree_at c.args.t (forest c.args.pool.now)))) = below_end (c.children-at-end.ensures.plain c.requires.expression) c.loop-at-test.true in
    let child = c.child_id.ensures.plain c.requires.expression in
    handed_on c.from_residual.result c.in_err-side_row.field-0.0 _ c.from_residual.ensures.1
    (overflow_as c.in_err-side_row.field-0.0 (λ o e. child_misfit (map name_of c.args.names.now) c.kind-kind.result (plain (tree_at c.args.t (forest c.args.pool.now))) c.loop-at.at (side_told c.loop-at.fits c.loop-at.row) (misfit_of o) within c.loop-at.invariant.rows (ap (row_of (map name_of c.args.names.now)) (sym child) ∙ e)) c.in_err-side_row.ensures.overflow)

pub returns-in_err-side_row-clause-stops : goal.returns-in_err-side_row-clause-stops
returns-in_err-side_row-clause-stops g t c =
    let within : c.loop-at.at < count (children_of (plain (tree_at c.args.t (forest c.args.pool.now)))) = below_end (c.children-at-end.ensures.plain c.requires.expression) c.loop-at-test.true in
    let child = c.child_id.ensures.plain c.requires.expression in
    handed_on c.from_residual.result c.in_err-side_row.field-0.0 _ c.from_residual.ensures.1
    (stops_after (child_checks (map name_of c.args.names.now) (plain (tree_at c.args.t (forest c.args.pool.now))) c.loop-at.at) (row_checks (map name_of c.args.names.now) (nth c.loop-at.at (children_of (plain (tree_at c.args.t (forest c.args.pool.now)))))) (row_checks (map name_of c.args.names.now) (plain (tree_at c.args.t (forest c.args.pool.now)))) (states g.B.Breaker.state c.args.watch.now) (states g.B.Breaker.state c.loop-at.watch) (states g.B.Breaker.state c.side_row.new.watch) c.in_err-side_row.field-0.0 (child_checks_within c.loop-at.invariant.rows within) (overflow_as c.in_err-side_row.field-0.0 (λ o e. child_checks_stop c.loop-at.invariant.rows (misfit_of o) within (ap (row_of (map name_of c.args.names.now)) (sym child) ∙ e)) c.in_err-side_row.ensures.overflow) c.loop-at.invariant.checks
    (subst (λ u. StopsAfter (row_checks (map name_of c.args.names.now) u) (states g.B.Breaker.state c.loop-at.watch) (states g.B.Breaker.state c.side_row.new.watch) c.in_err-side_row.field-0.0) child c.in_err-side_row.ensures.stops))

pub join_row-fits-requires : goal.join_row-fits-requires
join_row-fits-requires g t c = record {
  divisor = λ k p.
      let within : c.loop-at.at < count (children_of (plain (tree_at c.args.t (forest c.args.pool.now)))) = below_end (c.children-at-end.ensures.plain c.requires.expression) c.loop-at-test.true in
      let child = c.child_id.ensures.plain c.requires.expression in
      divisor_at (map name_of c.args.names.now) (plain (tree_at c.args.t (forest c.args.pool.now))) c.loop-at.at (length c.args.names.now) (side_of c.side_row.new.row)
      (sym (length-map c.args.names.now name_of)) (sym (c.kind-kind.ensures.plain c.requires.expression) ∙ k) c.requires.linear p within
      (ap (row_of (map name_of c.args.names.now)) (sym child) ∙ c.in_ok-side_row.ensures.ok);
}

pub loop-at-preserved : goal.loop-at-preserved
loop-at-preserved g t c =
    let within : c.loop-at.at < count (children_of (plain (tree_at c.args.t (forest c.args.pool.now)))) = below_end (c.children-at-end.ensures.plain c.requires.expression) c.loop-at-test.true in
    let child = c.child_id.ensures.plain c.requires.expression in
    record {
      rows = next_made (map name_of c.args.names.now) c.kind-kind.result (plain (tree_at c.args.t (forest c.args.pool.now))) c.loop-at.at (length c.args.names.now) (side_told c.loop-at.fits c.loop-at.row) (side_told c.join_row-fits.result c.join_row-fits.new.row) (side_of c.side_row.new.row) (sym (length-map c.args.names.now name_of)) within c.loop-at.invariant.rows
          (ap (row_of (map name_of c.args.names.now)) (sym child) ∙ c.in_ok-side_row.ensures.ok) c.join_row-fits.ensures.first c.join_row-fits.ensures.later;
      checks = subst (λ n. CalmChecks n (states g.B.Breaker.state c.args.watch.now) (states g.B.Breaker.state c.side_row.new.watch)) (sym (next_child_checks c.loop-at.invariant.rows within))
          (CalmChecks-append (child_checks (map name_of c.args.names.now) (plain (tree_at c.args.t (forest c.args.pool.now))) c.loop-at.at) (row_checks (map name_of c.args.names.now) (nth c.loop-at.at (children_of (plain (tree_at c.args.t (forest c.args.pool.now)))))) (states g.B.Breaker.state c.args.watch.now) (states g.B.Breaker.state c.loop-at.watch) (states g.B.Breaker.state c.side_row.new.watch) c.loop-at.invariant.checks
          (subst (λ u. CalmChecks (row_checks (map name_of c.args.names.now) u) (states g.B.Breaker.state c.loop-at.watch) (states g.B.Breaker.state c.side_row.new.watch)) child c.in_ok-side_row.ensures.checks));
    }

pub returns-in_err-check-clause-stops : goal.returns-in_err-check-clause-stops
returns-in_err-check-clause-stops g t c =
    let done : count (children_of (plain (tree_at c.args.t (forest c.args.pool.now)))) ≤ c.loop-at.at = past_end (c.children-at-end.ensures.plain c.requires.expression) c.loop-at-test.false in
    handed_on c.from_residual-in_err-check.result (fault.Interrupted c.in_err-check.field-0.0) _ c.from_residual-in_err-check.ensures.1
    (trips_after (child_checks (map name_of c.args.names.now) (plain (tree_at c.args.t (forest c.args.pool.now))) c.loop-at.at) (row_checks (map name_of c.args.names.now) (plain (tree_at c.args.t (forest c.args.pool.now)))) (states g.B.Breaker.state c.args.watch.now) (states g.B.Breaker.state c.loop-at.watch) (states g.B.Breaker.state c.check.new.self) c.in_err-check.field-0.0.by (omega (arith, own_check c.loop-at.invariant.rows done)) c.loop-at.invariant.checks c.in_err-check.ensures.interrupted)

pub returns-in_err-fits-clause-overflow : goal.returns-in_err-fits-clause-overflow
returns-in_err-fits-clause-overflow g t c =
    let done : count (children_of (plain (tree_at c.args.t (forest c.args.pool.now)))) ≤ c.loop-at.at = past_end (c.children-at-end.ensures.plain c.requires.expression) c.loop-at-test.false in
    handed_on c.from_residual-in_err-fits.result (fault.Overflow c.in_err-fits.field-0.0) _ c.from_residual-in_err-fits.ensures.1
    (own_misfit (map name_of c.args.names.now) c.kind-kind.result (plain (tree_at c.args.t (forest c.args.pool.now))) c.loop-at.at (side_told c.loop-at.fits c.loop-at.row) (misfit_of c.in_err-fits.field-0.0) (c.kind-kind.ensures.plain c.requires.expression) done c.loop-at.invariant.rows (ap (λ f. side_told f c.loop-at.row) c.in_err-fits.was))

pub returns-in_err-fits-clause-stops : goal.returns-in_err-fits-clause-stops
returns-in_err-fits-clause-stops g t c =
    let done : count (children_of (plain (tree_at c.args.t (forest c.args.pool.now)))) ≤ c.loop-at.at = past_end (c.children-at-end.ensures.plain c.requires.expression) c.loop-at-test.false in
    handed_on c.from_residual-in_err-fits.result (fault.Overflow c.in_err-fits.field-0.0) _ c.from_residual-in_err-fits.ensures.1
    (subst (λ n. CalmChecks n (states g.B.Breaker.state c.args.watch.now) (states g.B.Breaker.state c.check.new.self)) (own_check c.loop-at.invariant.rows done)
    (CalmChecks-append (child_checks (map name_of c.args.names.now) (plain (tree_at c.args.t (forest c.args.pool.now))) c.loop-at.at) 1 (states g.B.Breaker.state c.args.watch.now) (states g.B.Breaker.state c.loop-at.watch) (states g.B.Breaker.state c.check.new.self) c.loop-at.invariant.checks (one_calm (states g.B.Breaker.state c.loop-at.watch) (states g.B.Breaker.state c.check.new.self) c.in_ok-check.ensures.calm)))

pub returns-clause-ok : goal.returns-clause-ok
returns-clause-ok g t c =
    let done : count (children_of (plain (tree_at c.args.t (forest c.args.pool.now)))) ≤ c.loop-at.at = past_end (c.children-at-end.ensures.plain c.requires.expression) c.loop-at-test.false in
    own_made (map name_of c.args.names.now) c.kind-kind.result (plain (tree_at c.args.t (forest c.args.pool.now))) c.loop-at.at (side_told c.loop-at.fits c.loop-at.row) (side_of c.loop-at.row)
    (side_of c.sign_row.new.row) (c.kind-kind.ensures.plain c.requires.expression) done c.loop-at.invariant.rows (ap (λ f. side_told f c.loop-at.row) c.in_ok-fits.was) c.sign_row.ensures

pub returns-clause-checks : goal.returns-clause-checks
returns-clause-checks g t c =
    let done : count (children_of (plain (tree_at c.args.t (forest c.args.pool.now)))) ≤ c.loop-at.at = past_end (c.children-at-end.ensures.plain c.requires.expression) c.loop-at-test.false in
    subst (λ n. CalmChecks n (states g.B.Breaker.state c.args.watch.now) (states g.B.Breaker.state c.check.new.self)) (own_check c.loop-at.invariant.rows done)
    (CalmChecks-append (child_checks (map name_of c.args.names.now) (plain (tree_at c.args.t (forest c.args.pool.now))) c.loop-at.at) 1 (states g.B.Breaker.state c.args.watch.now) (states g.B.Breaker.state c.loop-at.watch) (states g.B.Breaker.state c.check.new.self) c.loop-at.invariant.checks (one_calm (states g.B.Breaker.state c.loop-at.watch) (states g.B.Breaker.state c.check.new.self) c.in_ok-check.ensures.calm))
