use Rattle.linear_solve.proofs.Shared.{◌≡◌, ◌<◌, ◌+◌, length, map, get_or, sym, ap, subst, ◌∙◌, arith, length-map, All-get_or, CalmChecks-append, CalmChecks, states, name_of, IsLinearIn, equation_at}
use Rattle.linear_solve.proofs.{Shared.{equation_checks, equations_in, side_checks, entries_of, misfit_of, forest}, EquationRows.{all_equations, broken_equation, equation_here, equations_long}}
use Rattle.linear_solve.proofs.{EquationRows.{next_equation}, CheckCounts.{all_side_checks, first_checks, next_side_checks, side_checks_stop, side_checks_within}, RowLists.{mapped_push}}
use Rattle.linear_solve.proofs.{Theorem.{difference_long, no_equation}, Walks.{handed_on, overflow_as, stops_after}}
use Rattle.linear_solve.proofs.Places.{below_mapped, past_mapped}
use Rattle.linear_solve.proofs.equations.equation_rows.Goals as goal

pub difference_row-requires-clause-left_linear : goal.difference_row-requires-clause-left_linear
difference_row-requires-clause-left_linear g c =
    let long : length (equations_in (forest c.args.pool.now) c.args.left.now c.args.right.now) ≡ length c.args.left.now = equations_long (forest c.args.pool.now) c.args.left.now c.args.right.now c.requires.pairs in
    let within : c.loop-at.at < length (equations_in (forest c.args.pool.now) c.args.left.now c.args.right.now) = below_mapped long c.loop-at-test.true in
    let here : get_or (equations_in (forest c.args.pool.now) c.args.left.now c.args.right.now) c.loop-at.at no_equation ≡ (equation_at (forest c.args.pool.now) c.index-left-at.result c.index-right-at.result) = equation_here (forest c.args.pool.now) c.args.left.now c.args.right.now c.loop-at.at c.index-left-at.result c.index-right-at.result c.loop-at-test.true c.requires.pairs c.index-left-at.is c.index-right-at.is in
    (subst (IsLinearIn (map name_of c.args.names.now)) here (All-get_or (IsLinearIn (map name_of c.args.names.now)) (equations_in (forest c.args.pool.now) c.args.left.now c.args.right.now) c.loop-at.at no_equation within c.requires.linear)).left

pub difference_row-requires-clause-right_linear : goal.difference_row-requires-clause-right_linear
difference_row-requires-clause-right_linear g c =
    let long : length (equations_in (forest c.args.pool.now) c.args.left.now c.args.right.now) ≡ length c.args.left.now = equations_long (forest c.args.pool.now) c.args.left.now c.args.right.now c.requires.pairs in
    let within : c.loop-at.at < length (equations_in (forest c.args.pool.now) c.args.left.now c.args.right.now) = below_mapped long c.loop-at-test.true in
    let here : get_or (equations_in (forest c.args.pool.now) c.args.left.now c.args.right.now) c.loop-at.at no_equation ≡ (equation_at (forest c.args.pool.now) c.index-left-at.result c.index-right-at.result) = equation_here (forest c.args.pool.now) c.args.left.now c.args.right.now c.loop-at.at c.index-left-at.result c.index-right-at.result c.loop-at-test.true c.requires.pairs c.index-left-at.is c.index-right-at.is in
    (subst (IsLinearIn (map name_of c.args.names.now)) here (All-get_or (IsLinearIn (map name_of c.args.names.now)) (equations_in (forest c.args.pool.now) c.args.left.now c.args.right.now) c.loop-at.at no_equation within c.requires.linear)).right

pub returns-in_err-row-clause-overflow : goal.returns-in_err-row-clause-overflow
returns-in_err-row-clause-overflow g c =
    let long : length (equations_in (forest c.args.pool.now) c.args.left.now c.args.right.now) ≡ length c.args.left.now = equations_long (forest c.args.pool.now) c.args.left.now c.args.right.now c.requires.pairs in
    let within : c.loop-at.at < length (equations_in (forest c.args.pool.now) c.args.left.now c.args.right.now) = below_mapped long c.loop-at-test.true in
    let here : get_or (equations_in (forest c.args.pool.now) c.args.left.now c.args.right.now) c.loop-at.at no_equation ≡ (equation_at (forest c.args.pool.now) c.index-left-at.result c.index-right-at.result) = equation_here (forest c.args.pool.now) c.args.left.now c.args.right.now c.loop-at.at c.index-left-at.result c.index-right-at.result c.loop-at-test.true c.requires.pairs c.index-left-at.is c.index-right-at.is in
    handed_on c.from_residual.result c.in_err-row.field-0.0 _ c.from_residual.ensures.1
    (overflow_as c.in_err-row.field-0.0 (λ o e. broken_equation (map name_of c.args.names.now) (equations_in (forest c.args.pool.now) c.args.left.now c.args.right.now) c.loop-at.at (equation_at (forest c.args.pool.now) c.index-left-at.result c.index-right-at.result) (map entries_of c.loop-at.rows.items) (misfit_of o) within here e c.loop-at.invariant.made) c.in_err-row.ensures.overflow)

pub returns-in_err-row-clause-stops : goal.returns-in_err-row-clause-stops
returns-in_err-row-clause-stops g c =
    let long : length (equations_in (forest c.args.pool.now) c.args.left.now c.args.right.now) ≡ length c.args.left.now = equations_long (forest c.args.pool.now) c.args.left.now c.args.right.now c.requires.pairs in
    let within : c.loop-at.at < length (equations_in (forest c.args.pool.now) c.args.left.now c.args.right.now) = below_mapped long c.loop-at-test.true in
    let here : get_or (equations_in (forest c.args.pool.now) c.args.left.now c.args.right.now) c.loop-at.at no_equation ≡ (equation_at (forest c.args.pool.now) c.index-left-at.result c.index-right-at.result) = equation_here (forest c.args.pool.now) c.args.left.now c.args.right.now c.loop-at.at c.index-left-at.result c.index-right-at.result c.loop-at-test.true c.requires.pairs c.index-left-at.is c.index-right-at.is in
    handed_on c.from_residual.result c.in_err-row.field-0.0 _ c.from_residual.ensures.1
    (stops_after (first_checks (map name_of c.args.names.now) (equations_in (forest c.args.pool.now) c.args.left.now c.args.right.now) c.loop-at.at) (side_checks (map name_of c.args.names.now) (equation_at (forest c.args.pool.now) c.index-left-at.result c.index-right-at.result)) (equation_checks (map name_of c.args.names.now) (equations_in (forest c.args.pool.now) c.args.left.now c.args.right.now)) (states g.B.Breaker.state c.args.watch.now) (states g.B.Breaker.state c.loop-at.watch) (states g.B.Breaker.state c.difference_row.new.watch) c.in_err-row.field-0.0 (side_checks_within (map name_of c.args.names.now) (equations_in (forest c.args.pool.now) c.args.left.now c.args.right.now) c.loop-at.at (equation_at (forest c.args.pool.now) c.index-left-at.result c.index-right-at.result) (map entries_of c.loop-at.rows.items) within here c.loop-at.invariant.made)
    (overflow_as c.in_err-row.field-0.0 (λ o e. side_checks_stop (map name_of c.args.names.now) (equations_in (forest c.args.pool.now) c.args.left.now c.args.right.now) c.loop-at.at (equation_at (forest c.args.pool.now) c.index-left-at.result c.index-right-at.result) (map entries_of c.loop-at.rows.items) within here c.loop-at.invariant.made (misfit_of o) e) c.in_err-row.ensures.overflow) c.loop-at.invariant.checks c.in_err-row.ensures.stops)

pub push_unit-requires : goal.push_unit-requires
push_unit-requires g c =
    let long : length (equations_in (forest c.args.pool.now) c.args.left.now c.args.right.now) ≡ length c.args.left.now = equations_long (forest c.args.pool.now) c.args.left.now c.args.right.now c.requires.pairs in
    let within : c.loop-at.at < length (equations_in (forest c.args.pool.now) c.args.left.now c.args.right.now) = below_mapped long c.loop-at-test.true in
    let here : get_or (equations_in (forest c.args.pool.now) c.args.left.now c.args.right.now) c.loop-at.at no_equation ≡ (equation_at (forest c.args.pool.now) c.index-left-at.result c.index-right-at.result) = equation_here (forest c.args.pool.now) c.args.left.now c.args.right.now c.loop-at.at c.index-left-at.result c.index-right-at.result c.loop-at-test.true c.requires.pairs c.index-left-at.is c.index-right-at.is in
    let wide : length (entries_of c.in_ok-row.row) ≡ length (map name_of c.args.names.now) + 1 = difference_long (map name_of c.args.names.now) (equation_at (forest c.args.pool.now) c.index-left-at.result c.index-right-at.result) (entries_of c.in_ok-row.row) c.requires.distinct (subst (IsLinearIn (map name_of c.args.names.now)) here (All-get_or (IsLinearIn (map name_of c.args.names.now)) (equations_in (forest c.args.pool.now) c.args.left.now c.args.right.now) c.loop-at.at no_equation within c.requires.linear)) c.in_ok-row.ensures.ok ∙ omega arith in
    omega (arith, wide, length-map c.args.names.now name_of, c.requires.few, c.requires.names)

pub loop-at-preserved : goal.loop-at-preserved
loop-at-preserved g c =
    let long : length (equations_in (forest c.args.pool.now) c.args.left.now c.args.right.now) ≡ length c.args.left.now = equations_long (forest c.args.pool.now) c.args.left.now c.args.right.now c.requires.pairs in
    let within : c.loop-at.at < length (equations_in (forest c.args.pool.now) c.args.left.now c.args.right.now) = below_mapped long c.loop-at-test.true in
    let here : get_or (equations_in (forest c.args.pool.now) c.args.left.now c.args.right.now) c.loop-at.at no_equation ≡ (equation_at (forest c.args.pool.now) c.index-left-at.result c.index-right-at.result) = equation_here (forest c.args.pool.now) c.args.left.now c.args.right.now c.loop-at.at c.index-left-at.result c.index-right-at.result c.loop-at-test.true c.requires.pairs c.index-left-at.is c.index-right-at.is in
    record {
      made = rw (mapped_push entries_of c.push.new.self.items c.loop-at.rows.items c.push_unit.new.row c.push.ensures.items)
          (next_equation (map name_of c.args.names.now) (equations_in (forest c.args.pool.now) c.args.left.now c.args.right.now) c.loop-at.at (length c.args.left.now) (equation_at (forest c.args.pool.now) c.index-left-at.result c.index-right-at.result) (map entries_of c.loop-at.rows.items) (entries_of c.in_ok-row.row) (entries_of c.push_unit.new.row) (sym long) within here c.in_ok-row.ensures.ok c.push_unit.ensures c.loop-at.invariant.made);
      long = c.push.ensures.len ∙ ap (λ n. n + 1) c.loop-at.invariant.long;
      checks = subst (λ n. CalmChecks n (states g.B.Breaker.state c.args.watch.now) (states g.B.Breaker.state c.difference_row.new.watch)) (sym (next_side_checks (map name_of c.args.names.now) (equations_in (forest c.args.pool.now) c.args.left.now c.args.right.now) c.loop-at.at (equation_at (forest c.args.pool.now) c.index-left-at.result c.index-right-at.result) (map entries_of c.loop-at.rows.items) within here c.loop-at.invariant.made))
          (CalmChecks-append (first_checks (map name_of c.args.names.now) (equations_in (forest c.args.pool.now) c.args.left.now c.args.right.now) c.loop-at.at) (side_checks (map name_of c.args.names.now) (equation_at (forest c.args.pool.now) c.index-left-at.result c.index-right-at.result)) (states g.B.Breaker.state c.args.watch.now) (states g.B.Breaker.state c.loop-at.watch) (states g.B.Breaker.state c.difference_row.new.watch) c.loop-at.invariant.checks c.in_ok-row.ensures.checks);
    }

pub returns-clause-ok : goal.returns-clause-ok
returns-clause-ok g c =
    let long : length (equations_in (forest c.args.pool.now) c.args.left.now c.args.right.now) ≡ length c.args.left.now = equations_long (forest c.args.pool.now) c.args.left.now c.args.right.now c.requires.pairs in
    all_equations (map name_of c.args.names.now) (equations_in (forest c.args.pool.now) c.args.left.now c.args.right.now) c.loop-at.at (map entries_of c.loop-at.rows.items)
    (past_mapped long c.loop-at-test.false) c.loop-at.invariant.made

pub returns-clause-checks : goal.returns-clause-checks
returns-clause-checks g c =
    let long : length (equations_in (forest c.args.pool.now) c.args.left.now c.args.right.now) ≡ length c.args.left.now = equations_long (forest c.args.pool.now) c.args.left.now c.args.right.now c.requires.pairs in
    subst (λ n. CalmChecks n (states g.B.Breaker.state c.args.watch.now) (states g.B.Breaker.state c.loop-at.watch)) (all_side_checks (map name_of c.args.names.now) (equations_in (forest c.args.pool.now) c.args.left.now c.args.right.now) c.loop-at.at (past_mapped long c.loop-at-test.false)) c.loop-at.invariant.checks
