use Rattle.linear_solve.proofs.{Shared.{sym, ap, ◌∙◌, subst, CalmChecks, StopsAfter, states, name_checks, rows_told}, Walks.{handed_on}, CheckCounts.{name_checks_all}}
use Rattle.linear_solve.specs.declared.fault.SolveFault.TheVariants as fault
use Rattle.linear_solve.proofs.solving.solve_rows.Goals as goal

pub returns-in_err-eliminate-clause-stops : goal.returns-in_err-eliminate-clause-stops
returns-in_err-eliminate-clause-stops g c =
    handed_on c.from_residual.result c.in_err-eliminate.field-0.0 _ c.from_residual.ensures.1
    (subst (λ s. StopsAfter (name_checks c.args.names s) (states g.B.Breaker.state c.args.watch.now) (states g.B.Breaker.state c.eliminate.new.watch) c.in_err-eliminate.field-0.0) c.of-state.ensures c.in_err-eliminate.ensures.stops)

pub returns-in_err-solution-clause-stops : goal.returns-in_err-solution-clause-stops
returns-in_err-solution-clause-stops g c =
    handed_on c.from_residual-in_err-solution.result (fault.Overflow c.in_err-solution.field-0.0) _ c.from_residual-in_err-solution.ensures.1
    (subst (λ n. CalmChecks n (states g.B.Breaker.state c.args.watch.now) (states g.B.Breaker.state c.eliminate.new.watch)) (sym (name_checks_all c.args.names (rows_told c.of-state.result) (rows_told c.eliminate.new.self) c.in_ok-eliminate.ensures.ok) ∙ ap (name_checks c.args.names) c.of-state.ensures) c.in_ok-eliminate.ensures.checks)
