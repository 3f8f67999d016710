use Rattle.calc_session.proofs.Shared.{◌≡◌, ◌∙◌, inl, refl, ap, subst, arith, states, IsCommandLine, pool, dump, layout, decimals, diff, sign, solve, expand, asked_of, pool_report, dump_of, name_of, Content, CountsRefusal}
use Rattle.calc_session.proofs.Shared.{refusal_of_pool, IsTold, is_to_be_drawn, layout_reply, line_in, drawn, report, state_in, Command}
use Rattle.calc_session.proofs.{CalculatingLemmas.{equations_within, expression_within, rooted_within, rounded_within, signed_within, text_within}, CommandLemmas.{calm_told, written}, CountingLemmas.{counted_as, none_known}}
use Rattle.calc_session.proofs.{EvaluationLemmas.{none_rose}, TellingLemmas.{tells_as, told_command}}
use Rattle.calc_commands.specs.{Commands.{after as arms, latex, roots, explain, help, list_names}, Words.{help_report, word_report}}
use Rattle.calc_session.specs.declared.drawing.Notation.TheVariants.{Serial, Latex}
use Rattle.calc_session.specs.declared.answers.LineAnswer.TheVariants as answer
use Rattle.calc_session.proofs.parts.Parts.perform.Goals as goal

pub returns-in-Pool : goal.returns-in-Pool
returns-in-Pool g c =
    let before = states g.B.Breaker.state c.args.watch.now in
    let s = state_in c.args.self.now in
    let told = written c.args.self.now.text c.write_pool_report.new.text (pool_report c.args.self.now.work.pool) c.write_pool_report.ensures c.requires.empty in
    record {
      answers = rw (c.in-Pool.is) (told_command g.R.Reducer.room g.R.Reducer.bits s s before before c.args.line.now pool answer.Report c.write_pool_report.new.text.bytes refl (ap report told, refl));
      interrupted = calm_told answer.Report before before (λ place e. cc) (none_rose before);
      counted = inl (tt, record { size = refl; refusals = refl; last_refused = refl });
      kept = record { ready = c.requires.kept.ready; held = c.requires.kept.held; room = ap (λ (x : Content). x.capacity) c.write_pool_report.ensures ∙ c.requires.kept.room; served = c.requires.kept.served };
    }

pub returns-in-Dump : goal.returns-in-Dump
returns-in-Dump g c =
    let before = states g.B.Breaker.state c.args.watch.now in
    let s = state_in c.args.self.now in
    let told = written c.args.self.now.text c.write_dump.new.text (dump_of c.args.self.now.work.pool) c.write_dump.ensures c.requires.empty in
    record {
      answers = rw (c.in-Dump.is) (told_command g.R.Reducer.room g.R.Reducer.bits s s before before c.args.line.now dump answer.Report c.write_dump.new.text.bytes refl (ap report told, refl));
      interrupted = calm_told answer.Report before before (λ place e. cc) (none_rose before);
      counted = inl (tt, record { size = refl; refusals = refl; last_refused = refl });
      kept = record { ready = c.requires.kept.ready; held = c.requires.kept.held; room = ap (λ (x : Content). x.capacity) c.write_dump.ensures ∙ c.requires.kept.room; served = c.requires.kept.served };
    }

pub returns-in-Forget : goal.returns-in-Forget
returns-in-Forget g c =
    let before = states g.B.Breaker.state c.args.watch.now in
    record {
      answers = rw (c.in-Forget.is) (c.forget.ensures.answers g.R.Reducer.room g.R.Reducer.bits c.args.line.now before);
      interrupted = calm_told c.forget.result before before c.forget.ensures.no_interruption (none_rose before);
      counted = rw (c.in-Forget.is) (inl (none_known (refusal_of_pool c.forget.result) (λ lack k. k), c.forget.ensures.counted));
      kept = c.forget.ensures.kept;
    }

pub returns-in-After : goal.returns-in-After
returns-in-After g c =
    let before = states g.B.Breaker.state c.args.watch.now in
    let after = states g.B.Breaker.state c.arm.new.watch in
    let s = state_in c.args.self.now in
    record {
      answers = rw (c.in-After.is) (told_command g.R.Reducer.room g.R.Reducer.bits s s before after c.args.line.now (arms c.in-After.checks) answer.Report c.arm.new.text.bytes refl c.arm.ensures.told);
      interrupted = calm_told answer.Report before after (λ place e. cc) c.arm.ensures.no_check;
      counted = inl (tt, record { size = refl; refusals = refl; last_refused = refl });
      kept = record { ready = c.requires.kept.ready; held = c.requires.kept.held; room = c.arm.ensures.capacity ∙ c.requires.kept.room; served = c.requires.kept.served };
    }

pub returns-in-Draw : goal.returns-in-Draw
returns-in-Draw g c =
    let before = states g.B.Breaker.state c.args.watch.now in
    record {
      answers = rw (c.in-Draw.is) (record { reply = drawn; reply_is = is_to_be_drawn refl; state_is = refl; answer_is = refl; text_is = c.requires.empty });
      interrupted = calm_told answer.Draw before before (λ place e. cc) (none_rose before);
      counted = inl (tt, record { size = refl; refusals = refl; last_refused = refl });
      kept = c.requires.kept;
    }

pub returns-in-Layout : goal.returns-in-Layout
returns-in-Layout g c =
    let before = states g.B.Breaker.state c.args.watch.now in
    let s = state_in c.args.self.now in
    let told = c.tell_layout.ensures in
    let text = c.tell_layout.new.self.text.bytes in
    let is_told = IsTold g.R.Reducer.room g.R.Reducer.bits s before before c.args.line.now layout in
    record {
      answers = rw (c.in-Layout.is) (told_command g.R.Reducer.room g.R.Reducer.bits s (state_in c.tell_layout.new.self) before before c.args.line.now layout c.tell_layout.result text told.same
          (tells_as (λ reply. reply ≡ layout_reply (line_in Serial s)) is_told c.tell_layout.result text (λ r e. (e, refl)) told.told));
      interrupted = calm_told c.tell_layout.result before before told.no_interruption (none_rose before);
      counted = rw (c.in-Layout.is) (inl (none_known (refusal_of_pool c.tell_layout.result) (λ lack k. k), told.counted));
      kept = told.kept;
    }

pub returns-in-Latex : goal.returns-in-Latex
returns-in-Latex g c =
    let before = states g.B.Breaker.state c.args.watch.now in
    let s = state_in c.args.self.now in
    let told = c.tell_layout-in-Latex.ensures in
    let text = c.tell_layout-in-Latex.new.self.text.bytes in
    let is_told = IsTold g.R.Reducer.room g.R.Reducer.bits s before before c.args.line.now latex in
    record {
      answers = rw (c.in-Latex.is) (told_command g.R.Reducer.room g.R.Reducer.bits s (state_in c.tell_layout-in-Latex.new.self) before before c.args.line.now latex c.tell_layout-in-Latex.result text told.same
          (tells_as (λ reply. reply ≡ layout_reply (line_in Latex s)) is_told c.tell_layout-in-Latex.result text (λ r e. (e, refl)) told.told));
      interrupted = calm_told c.tell_layout-in-Latex.result before before told.no_interruption (none_rose before);
      counted = rw (c.in-Latex.is) (inl (none_known (refusal_of_pool c.tell_layout-in-Latex.result) (λ lack k. k), told.counted));
      kept = told.kept;
    }

pub calculate-requires-clause-behind : goal.calculate-requires-clause-behind
calculate-requires-clause-behind g c = text_within (subst (λ (k : Command). IsCommandLine c.args.line.now (asked_of k)) c.in-Diff.is c.requires.asked)

pub returns-in-Diff : goal.returns-in-Diff
returns-in-Diff g c =
    let before = states g.B.Breaker.state c.args.watch.now in
    let after = states g.B.Breaker.state c.calculate.new.watch in
    let s = state_in c.args.self.now in
    let told = c.calculate.ensures in
    let text = c.calculate.new.self.text.bytes in
    record {
      answers = rw (c.in-Diff.is) (told_command g.R.Reducer.room g.R.Reducer.bits s (state_in c.calculate.new.self) before after c.args.line.now (diff (name_of c.in-Diff.name) c.in-Diff.expression.now) c.calculate.result text told.same told.told);
      interrupted = told.interrupted;
      counted = rw (c.in-Diff.is) (told.counted);
      kept = told.kept;
    }

pub solve-requires-clause-behind : goal.solve-requires-clause-behind
solve-requires-clause-behind g c = equations_within (subst (λ (k : Command). IsCommandLine c.args.line.now (asked_of k)) c.in-Solve.is c.requires.asked)

pub returns-in-Solve : goal.returns-in-Solve
returns-in-Solve g c =
    let before = states g.B.Breaker.state c.args.watch.now in
    let after = states g.B.Breaker.state c.solve.new.watch in
    let s = state_in c.args.self.now in
    let told = c.solve.ensures in
    let text = c.solve.new.self.text.bytes in
    record {
      answers = rw (c.in-Solve.is) (told_command g.R.Reducer.room g.R.Reducer.bits s (state_in c.solve.new.self) before after c.args.line.now (solve c.in-Solve.equations.now) c.solve.result text told.same told.told);
      interrupted = told.interrupted;
      counted = rw (c.in-Solve.is) (inl (none_known (refusal_of_pool c.solve.result) (λ lack k. k), told.counted));
      kept = told.kept;
    }

pub tell_roots-requires-clause-behind : goal.tell_roots-requires-clause-behind
tell_roots-requires-clause-behind g c = rooted_within (subst (λ (k : Command). IsCommandLine c.args.line.now (asked_of k)) c.in-Roots.is c.requires.asked)

pub returns-in-Roots : goal.returns-in-Roots
returns-in-Roots g c =
    let before = states g.B.Breaker.state c.args.watch.now in
    let after = states g.B.Breaker.state c.tell_roots.new.watch in
    let s = state_in c.args.self.now in
    let told = c.tell_roots.ensures in
    let text = c.tell_roots.new.self.text.bytes in
    record {
      answers = rw (c.in-Roots.is) (told_command g.R.Reducer.room g.R.Reducer.bits s (state_in c.tell_roots.new.self) before after c.args.line.now (roots (name_of c.in-Roots.name) c.in-Roots.equation.now) c.tell_roots.result text told.same told.told);
      interrupted = told.interrupted;
      counted = rw (c.in-Roots.is) (inl (none_known (refusal_of_pool c.tell_roots.result) (λ lack k. k), told.counted));
      kept = told.kept;
    }

pub calculate-requires-in-Expand-clause-behind : goal.calculate-requires-in-Expand-clause-behind
calculate-requires-in-Expand-clause-behind g c = expression_within (subst (λ (k : Command). IsCommandLine c.args.line.now (asked_of k)) c.in-Expand.is c.requires.asked)

pub returns-in-Expand : goal.returns-in-Expand
returns-in-Expand g c =
    let before = states g.B.Breaker.state c.args.watch.now in
    let after = states g.B.Breaker.state c.calculate-in-Expand.new.watch in
    let s = state_in c.args.self.now in
    let told = c.calculate-in-Expand.ensures in
    let text = c.calculate-in-Expand.new.self.text.bytes in
    record {
      answers = rw (c.in-Expand.is) (told_command g.R.Reducer.room g.R.Reducer.bits s (state_in c.calculate-in-Expand.new.self) before after c.args.line.now (expand c.in-Expand.expression.now) c.calculate-in-Expand.result text told.same told.told);
      interrupted = told.interrupted;
      counted = rw (c.in-Expand.is) (counted_as (λ r. CountsRefusal r c.args.self.now.work.pool c.calculate-in-Expand.new.self.work.pool) (refusal_of_pool c.calculate-in-Expand.result) (λ lack k. k.is_known) (λ lack k. absurd k) told.counted);
      kept = told.kept;
    }

pub returns-in-Help : goal.returns-in-Help
returns-in-Help g c =
    let before = states g.B.Breaker.state c.args.watch.now in
    let s = state_in c.args.self.now in
    let told = written c.args.self.now.text c.write_help.new.text help_report c.write_help.ensures c.requires.empty in
    record {
      answers = rw (c.in-Help.is) (told_command g.R.Reducer.room g.R.Reducer.bits s s before before c.args.line.now help answer.Report c.write_help.new.text.bytes refl (ap report told, refl));
      interrupted = calm_told answer.Report before before (λ place e. cc) (none_rose before);
      counted = inl (tt, record { size = refl; refusals = refl; last_refused = refl });
      kept = record { ready = c.requires.kept.ready; held = c.requires.kept.held; room = ap (λ (x : Content). x.capacity) c.write_help.ensures ∙ c.requires.kept.room; served = c.requires.kept.served };
    }

pub returns-in-Explain : goal.returns-in-Explain
returns-in-Explain g c =
    let before = states g.B.Breaker.state c.args.watch.now in
    let s = state_in c.args.self.now in
    let told = written c.args.self.now.text c.write_word_help.new.text (word_report c.in-Explain.word) c.write_word_help.ensures c.requires.empty in
    record {
      answers = rw (c.in-Explain.is) (told_command g.R.Reducer.room g.R.Reducer.bits s s before before c.args.line.now (explain c.in-Explain.word) answer.Report c.write_word_help.new.text.bytes refl (ap report told, refl));
      interrupted = calm_told answer.Report before before (λ place e. cc) (none_rose before);
      counted = inl (tt, record { size = refl; refusals = refl; last_refused = refl });
      kept = record { ready = c.requires.kept.ready; held = c.requires.kept.held; room = ap (λ (x : Content). x.capacity) c.write_word_help.ensures ∙ c.requires.kept.room; served = c.requires.kept.served };
    }

pub write_names-requires-clause-room : goal.write_names-requires-clause-room
write_names-requires-clause-room g c = omega (arith, c.requires.kept.room)

pub returns-in-Names : goal.returns-in-Names
returns-in-Names g c =
    let before = states g.B.Breaker.state c.args.watch.now in
    let s = state_in c.args.self.now in
    record {
      answers = rw (c.in-Names.is) (told_command g.R.Reducer.room g.R.Reducer.bits s s before before c.args.line.now list_names answer.Report c.write_names.new.text.bytes refl (ap report c.write_names.ensures.told, refl));
      interrupted = calm_told answer.Report before before (λ place e. cc) (none_rose before);
      counted = inl (tt, record { size = refl; refusals = refl; last_refused = refl });
      kept = record { ready = c.requires.kept.ready; held = c.requires.kept.held; room = c.write_names.ensures.capacity ∙ c.requires.kept.room; served = c.requires.kept.served };
    }

pub calculate-requires-in-Decimal-clause-behind : goal.calculate-requires-in-Decimal-clause-behind
calculate-requires-in-Decimal-clause-behind g c = rounded_within (subst (λ (k : Command). IsCommandLine c.args.line.now (asked_of k)) c.in-Decimal.is c.requires.asked)

pub returns-in-Decimal : goal.returns-in-Decimal
returns-in-Decimal g c =
    let before = states g.B.Breaker.state c.args.watch.now in
    let after = states g.B.Breaker.state c.calculate-in-Decimal.new.watch in
    let s = state_in c.args.self.now in
    let told = c.calculate-in-Decimal.ensures in
    let text = c.calculate-in-Decimal.new.self.text.bytes in
    record {
      answers = rw (c.in-Decimal.is) (told_command g.R.Reducer.room g.R.Reducer.bits s (state_in c.calculate-in-Decimal.new.self) before after c.args.line.now (decimals c.in-Decimal.places c.in-Decimal.expression.now) c.calculate-in-Decimal.result text told.same told.told);
      interrupted = told.interrupted;
      counted = rw (c.in-Decimal.is) (counted_as (λ r. CountsRefusal r c.args.self.now.work.pool c.calculate-in-Decimal.new.self.work.pool) (refusal_of_pool c.calculate-in-Decimal.result) (λ lack k. k.is_known) (λ lack k. absurd k) told.counted);
      kept = told.kept;
    }

pub calculate-requires-in-Sign-clause-behind : goal.calculate-requires-in-Sign-clause-behind
calculate-requires-in-Sign-clause-behind g c = signed_within (subst (λ (k : Command). IsCommandLine c.args.line.now (asked_of k)) c.in-Sign.is c.requires.asked)

pub returns-in-Sign : goal.returns-in-Sign
returns-in-Sign g c =
    let before = states g.B.Breaker.state c.args.watch.now in
    let after = states g.B.Breaker.state c.calculate-in-Sign.new.watch in
    let s = state_in c.args.self.now in
    let told = c.calculate-in-Sign.ensures in
    let text = c.calculate-in-Sign.new.self.text.bytes in
    record {
      answers = rw (c.in-Sign.is) (told_command g.R.Reducer.room g.R.Reducer.bits s (state_in c.calculate-in-Sign.new.self) before after c.args.line.now (sign c.in-Sign.expression.now) c.calculate-in-Sign.result text told.same told.told);
      interrupted = told.interrupted;
      counted = rw (c.in-Sign.is) (counted_as (λ r. CountsRefusal r c.args.self.now.work.pool c.calculate-in-Sign.new.self.work.pool) (refusal_of_pool c.calculate-in-Sign.result) (λ lack k. k.is_known) (λ lack k. absurd k) told.counted);
      kept = told.kept;
    }
