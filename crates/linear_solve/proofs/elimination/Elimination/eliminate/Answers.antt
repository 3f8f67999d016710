use Rattle.linear_solve.proofs.{Shared.{◌+◌, ap, sym, subst, ◌∙◌, CalmChecks-append, CalmChecks, name_checks, states, rows_told, misfit_of, one_calm, trips_after}, RowLists.{settled_next}}
use Rattle.linear_solve.proofs.{Walks.{handed_on}, CheckCounts.{name_checks_stop, name_checks_within}}
use Rattle.linear_solve.specs.declared.fault.SolveFault.TheVariants as fault
use Rattle.linear_solve.proofs.elimination.Elimination.eliminate.Goals as goal

pub returns-in_err-check-clause-stops : goal.returns-in_err-check-clause-stops
returns-in_err-check-clause-stops g c =
    handed_on c.from_residual.result (fault.Interrupted c.in_err-check.field-0.0) _ c.from_residual.ensures.1
    (trips_after c.loop-name.name (name_checks c.args.names (rows_told c.args.self.now)) (states g.B.Breaker.state c.args.watch.now) (states g.B.Breaker.state c.loop-name.watch) (states g.B.Breaker.state c.check.new.self) c.in_err-check.field-0.0.by
    (name_checks_within c.args.names c.loop-name.name (rows_told c.args.self.now) (rows_told c.loop-name.self) c.loop-name.invariant.reached c.loop-name-test.true) c.loop-name.invariant.checks c.in_err-check.ensures.interrupted)

pub returns-in_err-settle-clause-stops : goal.returns-in_err-settle-clause-stops
returns-in_err-settle-clause-stops g c =
    handed_on c.from_residual-in_err-settle.result (fault.Overflow c.in_err-settle.field-0.0) _ c.from_residual-in_err-settle.ensures.1
    (subst (λ n. CalmChecks n (states g.B.Breaker.state c.args.watch.now) (states g.B.Breaker.state c.check.new.self))
    (sym (name_checks_stop c.args.names c.loop-name.name (rows_told c.args.self.now) (rows_told c.loop-name.self) (misfit_of c.in_err-settle.field-0.0) c.loop-name.invariant.reached c.in_err-settle.ensures.overflow c.loop-name-test.true))
    (CalmChecks-append c.loop-name.name 1 (states g.B.Breaker.state c.args.watch.now) (states g.B.Breaker.state c.loop-name.watch) (states g.B.Breaker.state c.check.new.self) c.loop-name.invariant.checks (one_calm (states g.B.Breaker.state c.loop-name.watch) (states g.B.Breaker.state c.check.new.self) c.in_ok-check.ensures.calm)))

pub loop-name-preserved : goal.loop-name-preserved
loop-name-preserved g c = record {
  reached = settled_next c.loop-name.name (rows_told c.args.self.now) (rows_told c.loop-name.self) (rows_told c.settle.new.self) c.loop-name.invariant.reached c.in_ok-settle.ensures.ok;
  long = c.in_ok-settle.ensures.one_more ∙ ap (λ n. n + 1) c.loop-name.invariant.long;
  checks = CalmChecks-append c.loop-name.name 1 (states g.B.Breaker.state c.args.watch.now) (states g.B.Breaker.state c.loop-name.watch) (states g.B.Breaker.state c.check.new.self) c.loop-name.invariant.checks (one_calm (states g.B.Breaker.state c.loop-name.watch) (states g.B.Breaker.state c.check.new.self) c.in_ok-check.ensures.calm);
}
