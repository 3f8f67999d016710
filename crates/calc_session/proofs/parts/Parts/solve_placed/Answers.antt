use Rattle.calc_session.proofs.Shared.{◌∙◌, CountsRefusal, TripsRose, take, refl, sym, ap, subst, arith, length-map, name_of, answer_told, names_listed, Rises, solution_text, states, Content}
use Rattle.calc_session.proofs.Shared.{used, free_of, form_room, IsReplyToEquations, report, state_in, forest, forest_of}
use Rattle.calc_session.proofs.{Shared.{held_entries, reason_of, refusal_in}, SolvingLemmas.{err_at, names_same, ok_at, on_ok_at}, RangeLemmas.{reads_many}}
use Rattle.calc_session.proofs.{CommandLemmas.{calm_told, refusal_uninterrupted, told_refusal}, EquationAnswers.{become_many, forms_told, lacking_reply, multipliers_told, read_reply, solved_reply}}
use Rattle.calc_session.proofs.{EvaluationLemmas.{full_interrupts_none, keeps_then, size_kept}, PoolLemmas.{kept_still, nodes_kept, same_state, size_same}}
use Rattle.std.proofs.Common.{◌<◌, ℕ, List, None, Some, length}
use Rattle.calc_session.specs.declared.answers.LineAnswer.TheVariants as answer
use Rattle.calc_session.proofs.parts.Parts.solve_placed.Goals as goal

pub solve_read-solved-requires : goal.solve_read-solved-requires
solve_read-solved-requires g c = record {
  entries = held_entries c.args.self.now.table (forest c.args.self.now.work.pool) c.requires.kept.held;
  stands = c.requires.kept.ready.stands;
  short = c.requires.short;
  few = c.requires.few;
  within = c.requires.split.within;
  reads = c.requires.reads;
}

pub returns-in-Err : goal.returns-in-Err
returns-in-Err g c = record {
  told = let (es, reads) = c.requires.reads in
      (read_reply c.args.self.now.work.pool c.args.self.now.table (states g.B.Breaker.state c.args.watch.now) (states g.B.Breaker.state c.solve_read-solved.new.watch) c.args.equations.now.text.now c.args.equations.now.before c.args.equations.now.ranges.now c.requires.split es _ reads (err_at _ c.solve_read-solved.result c.in-Err.refusal c.in-Err.is (c.solve_read-solved.ensures.refused es reads)), c.requires.empty);
  counted = err_at _ c.solve_read-solved.result c.in-Err.refusal c.in-Err.is c.solve_read-solved.ensures.counted;
  kept = let counted = err_at _ c.solve_read-solved.result c.in-Err.refusal c.in-Err.is c.solve_read-solved.ensures.counted in
      let size = size_kept (refusal_in (reason_of c.in-Err.refusal)) c.args.self.now.work.pool c.solve_read-solved.new.pool counted in
      kept_still c.args.self.now _ c.requires.kept c.solve_read-solved.ensures.stands size (ap forest_of c.solve_read-solved.ensures.as_before) (omega (arith, c.requires.kept.ready.lists, size)) refl refl refl;
  interrupted = told_refusal c.in-Err.refusal (TripsRose (states g.B.Breaker.state c.args.watch.now) (states g.B.Breaker.state c.solve_read-solved.new.watch)) (err_at _ c.solve_read-solved.result c.in-Err.refusal c.in-Err.is c.solve_read-solved.ensures.interrupted);
  same = same_state c.args.self.now.work.pool c.solve_read-solved.new.pool c.args.self.now.table (size_kept (refusal_in (reason_of c.in-Err.refusal)) c.args.self.now.work.pool c.solve_read-solved.new.pool (err_at _ c.solve_read-solved.result c.in-Err.refusal c.in-Err.is c.solve_read-solved.ensures.counted)) c.solve_read-solved.ensures.as_before;
}

pub write_solution-requires-clause-ready : goal.write_solution-requires-clause-ready
write_solution-requires-clause-ready g c =
    let kept = on_ok_at _ c.solve_read-solved.result c.in-Ok.solved c.in-Ok.is c.solve_read-solved.ensures.counted_ok in
    record { stands = c.solve_read-solved.ensures.stands; lists = omega (arith, c.requires.kept.ready.lists, kept.size) }

pub write_solution-requires-clause-rises : goal.write_solution-requires-clause-rises
write_solution-requires-clause-rises g c =
    let (es, reads) = c.requires.reads in
    let (left, built, become, h) = ok_at _ c.solve_read-solved.result c.in-Ok.solved c.in-Ok.is (c.solve_read-solved.ensures.solved es reads) in
    subst Rises (sym (names_same c.in-Ok.solved.names.items c.as_slice.result.now c.in_array-names.result c.len.result c.as_slice.ensures.value c.len.ensures.value c.in_array-names.ensures)) h.names.rising

pub write_solution-requires-clause-forms : goal.write_solution-requires-clause-forms
write_solution-requires-clause-forms g c =
    let (es, reads) = c.requires.reads in
    let (left, built, become, h) = ok_at _ c.solve_read-solved.result c.in-Ok.solved c.in-Ok.is (c.solve_read-solved.ensures.solved es reads) in
    forms_told (names_listed c.in-Ok.solved.names.items) built h.names h.linear (length (take c.len.result c.in_array-names.result)) c.in-Ok.solved.solution (sym (length-map (take c.len.result c.in_array-names.result) name_of) ∙ ap length (names_same c.in-Ok.solved.names.items c.as_slice.result.now c.in_array-names.result c.len.result c.as_slice.ensures.value c.len.ensures.value c.in_array-names.ensures)) h.calculated

pub write_solution-requires-clause-multipliers : goal.write_solution-requires-clause-multipliers
write_solution-requires-clause-multipliers g c =
    let (es, reads) = c.requires.reads in
    let (left, built, become, h) = ok_at _ c.solve_read-solved.result c.in-Ok.solved c.in-Ok.is (c.solve_read-solved.ensures.solved es reads) in
    multipliers_told (names_listed c.in-Ok.solved.names.items) built h.names h.linear c.in-Ok.solved.solution (omega (arith, become_many become, reads_many c.args.equations.now.before c.args.equations.now.text.now c.args.equations.now.ranges.now es reads, c.requires.few)) h.calculated

pub returns-in-Ok-write_solution : goal.returns-in-Ok-write_solution
returns-in-Ok-write_solution g c = record {
  told = let (es, reads) = c.requires.reads in
      let (left, built, become, h) = ok_at _ c.solve_read-solved.result c.in-Ok.solved c.in-Ok.is (c.solve_read-solved.ensures.solved es reads) in
      (subst (λ w. IsReplyToEquations (state_in c.args.self.now) (states g.B.Breaker.state c.args.watch.now) (states g.B.Breaker.state c.solve_read-solved.new.watch) c.args.equations.now.before c.args.equations.now.text.now (report w))
      (sym (c.in-Ok-write_solution.ensures.told ∙ ap (λ (ys : List (List ℕ)). solution_text ys (answer_told c.in-Ok.solved.solution)) (names_same c.in-Ok.solved.names.items c.as_slice.result.now c.in_array-names.result c.len.result c.as_slice.ensures.value c.len.ensures.value c.in_array-names.ensures)))
      (solved_reply c.args.self.now.work.pool c.args.self.now.table (states g.B.Breaker.state c.args.watch.now) (states g.B.Breaker.state c.solve_read-solved.new.watch) c.args.equations.now.text.now c.args.equations.now.before c.args.equations.now.ranges.now c.requires.split es built left c.in-Ok.solved reads become h));
  kept = let mid = c.solve_read-solved.new.pool in
      let size = size_same _ mid c.write_solution.new.work.pool c.write_solution.ensures.as_before ∙ (on_ok_at _ c.solve_read-solved.result c.in-Ok.solved c.in-Ok.is c.solve_read-solved.ensures.counted_ok).size in
      kept_still c.args.self.now _ c.requires.kept c.write_solution.ensures.ready.stands size (ap forest_of (nodes_kept _ mid c.write_solution.new.work.pool c.write_solution.ensures.as_before ∙ c.solve_read-solved.ensures.as_before)) c.write_solution.ensures.ready.lists refl c.write_solution.ensures.capacity refl;
  interrupted = calm_told answer.Report (states g.B.Breaker.state c.args.watch.now) (states g.B.Breaker.state c.solve_read-solved.new.watch) (λ place e. cc) (on_ok_at _ c.solve_read-solved.result c.in-Ok.solved c.in-Ok.is c.solve_read-solved.ensures.calm);
  counted = keeps_then None c.args.self.now.work.pool c.solve_read-solved.new.pool c.write_solution.new.work.pool (on_ok_at _ c.solve_read-solved.result c.in-Ok.solved c.in-Ok.is c.solve_read-solved.ensures.counted_ok) c.in-Ok-write_solution.ensures.counted;
  same = same_state c.args.self.now.work.pool c.write_solution.new.work.pool c.args.self.now.table (size_same _ c.solve_read-solved.new.pool c.write_solution.new.work.pool c.write_solution.ensures.as_before ∙ (on_ok_at _ c.solve_read-solved.result c.in-Ok.solved c.in-Ok.is c.solve_read-solved.ensures.counted_ok).size) (nodes_kept _ c.solve_read-solved.new.pool c.write_solution.new.work.pool c.write_solution.ensures.as_before ∙ c.solve_read-solved.ensures.as_before);
}

pub returns-in-Err-write_solution : goal.returns-in-Err-write_solution
returns-in-Err-write_solution g c = record {
  told = let (es, reads) = c.requires.reads in
      let (left, built, become, h) = ok_at _ c.solve_read-solved.result c.in-Ok.solved c.in-Ok.is (c.solve_read-solved.ensures.solved es reads) in
      let (forms, told) = c.in-Err-write_solution.ensures.solved in
      let (short, room) = c.in-Err-write_solution.ensures.lacks in
      let few : free_of c.args.self.now.work.pool < form_room = omega (arith, room, ap used c.solve_read-solved.ensures.as_before, (on_ok_at _ c.solve_read-solved.result c.in-Ok.solved c.in-Ok.is c.solve_read-solved.ensures.counted_ok).size) in
      (lacking_reply c.args.self.now.work.pool c.args.self.now.table (states g.B.Breaker.state c.args.watch.now) (states g.B.Breaker.state c.solve_read-solved.new.watch) c.args.equations.now.text.now c.args.equations.now.before c.args.equations.now.ranges.now c.requires.split es built left c.in-Ok.solved reads become h forms c.in-Err-write_solution.full c.refused.result c.refused.ensures told short few, ap (λ (x : Content). x.bytes) c.clear.ensures);
  kept = let mid = c.solve_read-solved.new.pool in
      let size = size_same _ mid c.write_solution.new.work.pool c.write_solution.ensures.as_before ∙ (on_ok_at _ c.solve_read-solved.result c.in-Ok.solved c.in-Ok.is c.solve_read-solved.ensures.counted_ok).size in
      kept_still c.args.self.now _ c.requires.kept c.write_solution.ensures.ready.stands size (ap forest_of (nodes_kept _ mid c.write_solution.new.work.pool c.write_solution.ensures.as_before ∙ c.solve_read-solved.ensures.as_before)) c.write_solution.ensures.ready.lists refl
      (ap (λ (x : Content). x.capacity) c.clear.ensures ∙ c.write_solution.ensures.capacity) refl;
  interrupted = calm_told (answer.Refused c.refused.result) (states g.B.Breaker.state c.args.watch.now) (states g.B.Breaker.state c.solve_read-solved.new.watch) (refusal_uninterrupted c.refused.result (λ place e. full_interrupts_none c.refused.result _ _ place c.refused.ensures e)) (on_ok_at _ c.solve_read-solved.result c.in-Ok.solved c.in-Ok.is c.solve_read-solved.ensures.calm);
  counted = subst (λ r. CountsRefusal (refusal_in (reason_of r)) c.args.self.now.work.pool c.write_solution.new.work.pool) (sym c.refused.ensures) (keeps_then (Some c.in-Err-write_solution.full) c.args.self.now.work.pool c.solve_read-solved.new.pool c.write_solution.new.work.pool (on_ok_at _ c.solve_read-solved.result c.in-Ok.solved c.in-Ok.is c.solve_read-solved.ensures.counted_ok) c.in-Err-write_solution.ensures.counted);
  same = same_state c.args.self.now.work.pool c.write_solution.new.work.pool c.args.self.now.table (size_same _ c.solve_read-solved.new.pool c.write_solution.new.work.pool c.write_solution.ensures.as_before ∙ (on_ok_at _ c.solve_read-solved.result c.in-Ok.solved c.in-Ok.is c.solve_read-solved.ensures.counted_ok).size) (nodes_kept _ c.solve_read-solved.new.pool c.write_solution.new.work.pool c.write_solution.ensures.as_before ∙ c.solve_read-solved.ensures.as_before);
}
