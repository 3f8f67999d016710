use Rattle.linear_solve.proofs.Shared.{map, subst, arith, CalmChecks-append, CalmChecks, states, name_of, equation_at, misfit_of, row_checks, side_checks, side_of, plain, tree_at, forest}
use Rattle.linear_solve.proofs.{CheckCounts.{both_sides, left_side}, Walks.{handed_on, overflow_as, stops_after, stops_as}}
use Rattle.linear_solve.specs.declared.fault.SolveFault.TheVariants as fault
use Rattle.linear_solve.proofs.equations.difference_row.Goals as goal

pub returns-in_err-side_row-clause-stops : goal.returns-in_err-side_row-clause-stops
returns-in_err-side_row-clause-stops g c =
    handed_on c.from_residual.result c.in_err-side_row.field-0.0 _ c.from_residual.ensures.1
    (stops_as (row_checks (map name_of c.args.names.now) (plain (tree_at c.args.left (forest c.args.pool.now)))) (side_checks (map name_of c.args.names.now) (equation_at (forest c.args.pool.now) c.args.left c.args.right)) (states g.B.Breaker.state c.args.watch.now) (states g.B.Breaker.state c.side_row.new.watch) c.in_err-side_row.field-0.0 (omega arith)
    (overflow_as c.in_err-side_row.field-0.0 (λ o e. left_side (map name_of c.args.names.now) (equation_at (forest c.args.pool.now) c.args.left c.args.right) (misfit_of o) e) c.in_err-side_row.ensures.overflow) c.in_err-side_row.ensures.stops)

pub returns-in_err-side_row-2-clause-stops : goal.returns-in_err-side_row-2-clause-stops
returns-in_err-side_row-2-clause-stops g c =
    let both = (both_sides (map name_of c.args.names.now) (equation_at (forest c.args.pool.now) c.args.left c.args.right) (side_of c.side_row.new.row) c.in_ok-side_row.ensures.ok) in
    handed_on c.from_residual-in_err-side_row-2.result c.in_err-side_row-2.field-0.0 _ c.from_residual-in_err-side_row-2.ensures.1
    (stops_after (row_checks (map name_of c.args.names.now) (plain (tree_at c.args.left (forest c.args.pool.now)))) (row_checks (map name_of c.args.names.now) (plain (tree_at c.args.right (forest c.args.pool.now)))) (side_checks (map name_of c.args.names.now) (equation_at (forest c.args.pool.now) c.args.left c.args.right)) (states g.B.Breaker.state c.args.watch.now) (states g.B.Breaker.state c.side_row.new.watch) (states g.B.Breaker.state c.side_row-2.new.watch) c.in_err-side_row-2.field-0.0 (omega (arith, both))
    (overflow_as c.in_err-side_row-2.field-0.0 (λ o e. both) c.in_err-side_row-2.ensures.overflow) c.in_ok-side_row.ensures.checks c.in_err-side_row-2.ensures.stops)

pub returns-in_err-row-clause-stops : goal.returns-in_err-row-clause-stops
returns-in_err-row-clause-stops g c =
    handed_on c.from_residual-in_err-row.result (fault.Overflow c.in_err-row.field-0.0) _ c.from_residual-in_err-row.ensures.1
    (subst (λ n. CalmChecks n (states g.B.Breaker.state c.args.watch.now) (states g.B.Breaker.state c.side_row-2.new.watch)) (both_sides (map name_of c.args.names.now) (equation_at (forest c.args.pool.now) c.args.left c.args.right) (side_of c.side_row.new.row) c.in_ok-side_row.ensures.ok) (CalmChecks-append (row_checks (map name_of c.args.names.now) (plain (tree_at c.args.left (forest c.args.pool.now)))) (row_checks (map name_of c.args.names.now) (plain (tree_at c.args.right (forest c.args.pool.now)))) (states g.B.Breaker.state c.args.watch.now) (states g.B.Breaker.state c.side_row.new.watch) (states g.B.Breaker.state c.side_row-2.new.watch) c.in_ok-side_row.ensures.checks c.in_ok-side_row-2.ensures.checks))

pub returns-clause-checks : goal.returns-clause-checks
returns-clause-checks g c =
    subst (λ n. CalmChecks n (states g.B.Breaker.state c.args.watch.now) (states g.B.Breaker.state c.side_row-2.new.watch)) (both_sides (map name_of c.args.names.now) (equation_at (forest c.args.pool.now) c.args.left c.args.right) (side_of c.side_row.new.row) c.in_ok-side_row.ensures.ok) (CalmChecks-append (row_checks (map name_of c.args.names.now) (plain (tree_at c.args.left (forest c.args.pool.now)))) (row_checks (map name_of c.args.names.now) (plain (tree_at c.args.right (forest c.args.pool.now)))) (states g.B.Breaker.state c.args.watch.now) (states g.B.Breaker.state c.side_row.new.watch) (states g.B.Breaker.state c.side_row-2.new.watch) c.in_ok-side_row.ensures.checks c.in_ok-side_row-2.ensures.checks)
