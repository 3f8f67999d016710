use Rattle.calc_session.proofs.{Shared.{◌∙◌, inl, refl, sym, arith, states, refusal_of_pool, is_long, state_in}, CountingLemmas.{none_asked, none_known}}
use Rattle.calc_session.proofs.{SessionLemmas.{answers_blank, answers_vain, calm_refusal}, CommandLemmas.{calm_told}, EvaluationLemmas.{none_rose}}
use Rattle.calc_session.specs.declared.answers.LineAnswer.TheVariants as answer
use Rattle.calc_session.specs.declared.answers.Refusal.TheVariants as refusal
use Rattle.calc_session.proofs.parts.Parts.answer.Goals as goal

pub returns-then-line-gt-LINE_LIMIT : goal.returns-then-line-gt-LINE_LIMIT
returns-then-line-gt-LINE_LIMIT g c = record {
  answers = answers_vain g.R.Reducer.room g.R.Reducer.bits (states g.B.Breaker.state c.args.watch.now) (states g.B.Breaker.state c.args.watch.now) c.args.line.now (state_in c.args.self.now) refusal.Long c.args.self.now.text.bytes (is_long (omega (arith, c.if-line-gt-LINE_LIMIT.true))) refl c.requires.empty;
  interrupted = calm_refusal refusal.Long (states g.B.Breaker.state c.args.watch.now) (λ place e. cc);
  counted = inl (tt, record { size = refl; refusals = refl; last_refused = refl });
  kept = record { ready = c.requires.kept.ready; held = c.requires.kept.held; room = c.requires.kept.room; served = c.requires.kept.served };
}

pub returns-then-are_blanks : goal.returns-then-are_blanks
returns-then-are_blanks g c = record {
  answers = answers_blank g.R.Reducer.room g.R.Reducer.bits (states g.B.Breaker.state c.args.watch.now) (states g.B.Breaker.state c.args.watch.now) c.args.line.now (state_in c.args.self.now) c.args.self.now.text.bytes (omega (arith, c.if-line-gt-LINE_LIMIT.false)) (sym c.are_blanks.ensures ∙ c.if-are_blanks.true) refl c.requires.empty;
  interrupted = calm_told answer.Blank (states g.B.Breaker.state c.args.watch.now) (states g.B.Breaker.state c.args.watch.now) (λ place e. cc) (none_rose (states g.B.Breaker.state c.args.watch.now));
  counted = inl (tt, record { size = refl; refusals = refl; last_refused = refl });
  kept = record { ready = c.requires.kept.ready; held = c.requires.kept.held; room = c.requires.kept.room; served = c.requires.kept.served };
}

pub returns-clause-counted : goal.returns-clause-counted
returns-clause-counted g c = inl (none_known (refusal_of_pool c.answer_text.result) (none_asked (state_in c.args.self.now) c.args.line.now (sym c.is_command.ensures ∙ c.if-is_command.false)), c.answer_text.ensures.counted)
