use Rattle.calc_session.proofs.Shared.{◌∙◌, ap, subst, states, Content, Answers, AnswersUntold, refusal_of_pool, AsksForTooMuch, IsCountedBut, Counts, Seen, seen_of, state_in}
use Rattle.calc_session.proofs.{SessionLemmas.{blank_text, draw_text, told_other, told_refusal}, CalculatingLemmas.{counted_seen}}
use Rattle.calc_session.specs.declared.answers.LineAnswer.TheVariants as answer
use Rattle.calc_session.proofs.session.Session.line.Goals as goal

pub answer-answer-requires-clause-kept : goal.answer-answer-requires-clause-kept
answer-answer-requires-clause-kept g c = record { ready = c.self.invariant.ready; held = c.self.invariant.held; room = ap (λ (x : Content). x.capacity) c.clear.ensures ∙ c.self.invariant.room; served = c.self.invariant.served }

pub returns-in_default : goal.returns-in_default
returns-in_default g c =
    let before = states g.B.Breaker.state c.args.watch.now in
    let after = states g.B.Breaker.state c.answer-answer.new.watch in
    let new = c.answer-answer.new.self in
    let untold = subst (λ (o : Seen). AnswersUntold g.R.Reducer.room g.R.Reducer.bits o.state before c.args.line.now c.answer-answer.result new.text.bytes (state_in new) after) c.self.view_is c.answer-answer.ensures.answers in
    record {
      step = told_other g.R.Reducer.room g.R.Reducer.bits before after c.args.line.now c.args.self.now.state (state_in new) c.answer-answer.result new.text.bytes c.in_default.not-Refused untold;
      blank = blank_text g.R.Reducer.room g.R.Reducer.bits c.args.self.now.state (state_in new) before after c.args.line.now new.text.bytes c.answer-answer.result untold;
      draw = draw_text g.R.Reducer.room g.R.Reducer.bits c.args.self.now.state (state_in new) before after c.args.line.now new.text.bytes c.answer-answer.result untold;
      interrupted = c.answer-answer.ensures.interrupted;
      counted = subst (λ (o : Seen). IsCountedBut (AsksForTooMuch o.state c.args.line.now) (λ r. Counts r o (seen_of new)) (refusal_of_pool c.answer-answer.result)) c.self.view_is
          (counted_seen (AsksForTooMuch (state_in c.self.inside.parts) c.args.line.now) (seen_of c.self.inside.parts) (seen_of new) (refusal_of_pool c.answer-answer.result) c.answer-answer.ensures.counted);
      held = c.answer-answer.ensures.kept.held;
    }

pub returns-in-Refused-clause-step : goal.returns-in-Refused-clause-step
returns-in-Refused-clause-step g c =
    let new = c.answer-answer.new.self in
    let before = states g.B.Breaker.state c.args.watch.now in
    let after = states g.B.Breaker.state c.answer-answer.new.watch in
    subst (λ (o : Seen). Answers g.R.Reducer.room g.R.Reducer.bits o.state before c.args.line.now (answer.Refused c.in-Refused.refusal) c.write_refusal.new.text.bytes (state_in new) after) c.self.view_is
    (told_refusal g.R.Reducer.room g.R.Reducer.bits before after c.args.line.now (state_in c.self.inside.parts) (state_in new) c.in-Refused.refusal new.text.bytes c.write_refusal.new.text.bytes c.in-Refused.ensures.answers c.write_refusal.ensures.text)

pub returns-in-Refused-clause-counted : goal.returns-in-Refused-clause-counted
returns-in-Refused-clause-counted g c =
    let new = c.answer-answer.new.self in
    let lack = refusal_of_pool (answer.Refused c.in-Refused.refusal) in
    subst (λ (o : Seen). IsCountedBut (AsksForTooMuch o.state c.args.line.now) (λ r. Counts r o (seen_of (record new { text = c.write_refusal.new.text }))) lack) c.self.view_is
    (counted_seen (AsksForTooMuch (state_in c.self.inside.parts) c.args.line.now) (seen_of c.self.inside.parts) (seen_of (record new { text = c.write_refusal.new.text })) lack c.in-Refused.ensures.counted)
