use Rattle.linear_solve.proofs.Shared.{◌≡◌, ◌+◌, Ok, Err, IfOk, IfErr, length, map, sym, refl, subst, arith, length-map, CalmChecks-append, CalmChecks, states, name_of, equation_checks, equations_in}
use Rattle.linear_solve.proofs.{Shared.{name_checks, solving_checks, OfOverflow, answer_told, rows_at_first, entries_of, misfit_of, forest}, Results.{if_err_as, on_ok_as, rows_solve}}
use Rattle.linear_solve.proofs.{Walks.{handed_on, of_overflow, overflow_as, stops_after, stops_as}, CheckCounts.{equation_checks_all, names_behind, rows_stop, rows_within}}
use Rattle.linear_solve.proofs.solving.calculate.Goals as goal

pub returns-in_err-rows-clause-stops : goal.returns-in_err-rows-clause-stops
returns-in_err-rows-clause-stops g c =
    handed_on c.from_residual.result c.in_err-rows.field-0.0 _ c.from_residual.ensures.1
    (stops_as (equation_checks (map name_of c.args.names.now) (equations_in (forest c.args.pool.now) c.args.left.now c.args.right.now)) (solving_checks (map name_of c.args.names.now) (equations_in (forest c.args.pool.now) c.args.left.now c.args.right.now)) (states g.B.Breaker.state c.args.watch.now) (states g.B.Breaker.state c.equation_rows.new.watch) c.in_err-rows.field-0.0 (rows_within (map name_of c.args.names.now) (equations_in (forest c.args.pool.now) c.args.left.now c.args.right.now))
    (overflow_as c.in_err-rows.field-0.0 (λ o e. rows_stop (map name_of c.args.names.now) (equations_in (forest c.args.pool.now) c.args.left.now c.args.right.now) (misfit_of o) e) c.in_err-rows.ensures.overflow) c.in_err-rows.ensures.stops)

pub returns : goal.returns
returns g c = record {
  calculated =
      subst (λ z. IfOk c.solve_rows.result (λ s. z ≡ Ok (answer_told s))) (sym (rows_solve (map name_of c.args.names.now) (equations_in (forest c.args.pool.now) c.args.left.now c.args.right.now) (length c.args.names.now) (map entries_of c.in_ok-rows.rows.items) (sym (length-map c.args.names.now name_of)) c.in_ok-rows.ensures.ok)) c.solve_rows.ensures.calculated;
  overflow =
      subst (λ z. IfErr c.solve_rows.result (OfOverflow (λ o. z ≡ Err (misfit_of o)))) (sym (rows_solve (map name_of c.args.names.now) (equations_in (forest c.args.pool.now) c.args.left.now c.args.right.now) (length c.args.names.now) (map entries_of c.in_ok-rows.rows.items) (sym (length-map c.args.names.now name_of)) c.in_ok-rows.ensures.ok)) c.solve_rows.ensures.overflow;
  checks =
      on_ok_as c.solve_rows.result (λ calm. subst (λ n. CalmChecks (n + (length c.args.names.now)) (states g.B.Breaker.state c.args.watch.now) (states g.B.Breaker.state c.solve_rows.new.watch)) (equation_checks_all (map name_of c.args.names.now) (equations_in (forest c.args.pool.now) c.args.left.now c.args.right.now) (map entries_of c.in_ok-rows.rows.items) c.in_ok-rows.ensures.ok) (CalmChecks-append (equation_checks (map name_of c.args.names.now) (equations_in (forest c.args.pool.now) c.args.left.now c.args.right.now)) (length c.args.names.now) (states g.B.Breaker.state c.args.watch.now) (states g.B.Breaker.state c.equation_rows.new.watch) (states g.B.Breaker.state c.solve_rows.new.watch) c.in_ok-rows.ensures.checks calm)) c.solve_rows.ensures.checks;
  stops =
      let behind = names_behind (map name_of c.args.names.now) (equations_in (forest c.args.pool.now) c.args.left.now c.args.right.now) (length c.args.names.now) (map entries_of c.in_ok-rows.rows.items) (rows_at_first (map entries_of c.in_ok-rows.rows.items)) (sym (length-map c.args.names.now name_of)) c.in_ok-rows.ensures.ok refl in
      if_err_as c.solve_rows.result (λ fault stops. stops_after (equation_checks (map name_of c.args.names.now) (equations_in (forest c.args.pool.now) c.args.left.now c.args.right.now)) (name_checks (length c.args.names.now) (rows_at_first (map entries_of c.in_ok-rows.rows.items))) (solving_checks (map name_of c.args.names.now) (equations_in (forest c.args.pool.now) c.args.left.now c.args.right.now)) (states g.B.Breaker.state c.args.watch.now) (states g.B.Breaker.state c.equation_rows.new.watch) (states g.B.Breaker.state c.solve_rows.new.watch) fault (omega (arith, behind)) (of_overflow fault behind) c.in_ok-rows.ensures.checks stops) c.solve_rows.ensures.stops;
}
