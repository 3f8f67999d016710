use Rattle.calc_session.proofs.Shared.{AllZip, AreSplit, CountsRefusal, Equation, EquationRange, ReadsEquation, map, pieces_at, refl, states, subst, sym}
use Rattle.calc_session.proofs.{CommandLemmas.{calm_told, refusal_uninterrupted}, EvaluationLemmas.{none_rose}, Shared.{state_in}}
use Rattle.std.proofs.Common.{List}
use Rattle.calc_session.specs.declared.answers.LineAnswer.TheVariants as answer
use Rattle.calc_session.proofs.parts.Parts.solve.Goals as goal

pub returns-in-Err : goal.returns-in-Err
returns-in-Err g c = record {
  told = rw (← c.bytes_before-before.ensures) (c.in-Err.ensures.refused (state_in c.args.self.now) (states g.B.Breaker.state c.args.watch.now), c.requires.empty);
  interrupted = calm_told (answer.Refused c.in-Err.refusal) (states g.B.Breaker.state c.args.watch.now) (states g.B.Breaker.state c.args.watch.now) (refusal_uninterrupted c.in-Err.refusal c.in-Err.ensures.no_breaker) (none_rose (states g.B.Breaker.state c.args.watch.now));
  counted = subst (λ r. CountsRefusal r c.args.self.now.work.pool c.args.self.now.work.pool) (sym c.in-Err.ensures.no_pool) (record { size = refl; refusals = refl; last_refused = refl });
  same = refl;
  kept = record { ready = c.requires.kept.ready; held = c.requires.kept.held; room = c.requires.kept.room; served = c.requires.kept.served };
}

pub solve_placed-requires-clause-split : goal.solve_placed-requires-clause-split
solve_placed-requires-clause-split g c = subst (AreSplit c.args.text.now) (sym c.as_slice.ensures.value) c.in-Ok.ensures.split

pub solve_placed-requires-clause-reads : goal.solve_placed-requires-clause-reads
solve_placed-requires-clause-reads g c = subst (λ (rs : List EquationRange). (es : List Equation) × AllZip ReadsEquation (map (pieces_at c.bytes_before-before.result c.args.text.now) rs) es) (sym c.as_slice.ensures.value) c.in-Ok.ensures.read

pub returns-in-Ok : goal.returns-in-Ok
returns-in-Ok g c = record {
  told = rw (← c.bytes_before-before.ensures) c.solve_placed.ensures.told;
  interrupted = c.solve_placed.ensures.interrupted;
  counted = c.solve_placed.ensures.counted;
  same = c.solve_placed.ensures.same;
  kept = c.solve_placed.ensures.kept;
}
