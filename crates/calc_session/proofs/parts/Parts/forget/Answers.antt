use Rattle.calc_session.proofs.Shared.{◌∙◌, ap, refl, sym, subst, arith, Content, forget, forgot_report, unknown_report, name_of, IsTold, keeps_ans, knows_no_name, refuses, refused, reserved, report}
use Rattle.calc_session.proofs.{Shared.{state_in, state_of}, CommandLemmas.{answers_forgot, same_pool, written}, TellingLemmas.{told_command}}
use Rattle.calc_session.specs.declared.answers.LineAnswer.TheVariants as answer
use Rattle.calc_session.proofs.parts.Parts.forget.Goals as goal

pub returns-then-is_ans-clause-answers : goal.returns-then-is_ans-clause-answers
returns-then-is_ans-clause-answers c = λ room bits line breakers. record { reply = refused reserved; reply_is = refuses (keeps_ans (sym c.is_ans.ensures ∙ c.if-is_ans.true), refl); state_is = refl; answer_is = refl; text_is = c.requires.empty }

pub returns-then-forget-clause-answers : goal.returns-then-forget-clause-answers
returns-then-forget-clause-answers c = λ room bits line breakers.
    answers_forgot c.args.self.now.work.pool c.forget.new.pool c.args.self.now.table c.forget.new.self (name_of c.args.name) c.requires.kept.ready.stands c.forget.ensures.stands c.forget.ensures.kept c.forget.ensures.table c.forget.ensures.forest room bits breakers line c.write_forgot.new.text.bytes
    (sym c.is_ans.ensures ∙ c.if-is_ans.false) (sym c.forget.ensures.told ∙ c.if-forget.true) (written c.args.self.now.text c.write_forgot.new.text (forgot_report (name_of c.args.name)) c.write_forgot.ensures c.requires.empty)

pub returns-then-forget-clause-kept : goal.returns-then-forget-clause-kept
returns-then-forget-clause-kept c = record {
  ready = record { stands = c.forget.ensures.stands; lists = omega (arith, c.requires.kept.ready.lists, c.forget.ensures.kept.size) };
  held = c.forget.ensures.held;
  room = omega (arith, ap (λ (x : Content). x.capacity) c.write_forgot.ensures, c.requires.kept.room, c.forget.ensures.kept.size);
  served = c.requires.kept.served ∙ sym c.forget.ensures.kept.size;
}

pub returns-else-forget-clause-answers : goal.returns-else-forget-clause-answers
returns-else-forget-clause-answers c = λ room bits line breakers.
    let s = state_in c.args.self.now in
    let x = name_of c.args.name in
    let absent = sym c.forget.ensures.told ∙ c.if-forget.false in
    told_command room bits s (state_of c.forget.new.pool c.forget.new.self) breakers breakers line (forget x) answer.Report c.write_unknown.new.text.bytes
    (same_pool c.args.self.now.work.pool c.forget.new.pool c.args.self.now.table c.forget.new.self x c.requires.kept.ready.stands c.forget.ensures.stands c.forget.ensures.kept c.forget.ensures.table c.forget.ensures.forest c.requires.kept.held absent)
    (subst (λ w. IsTold room bits s breakers breakers line (forget x) (report w)) (sym (written c.args.self.now.text c.write_unknown.new.text (unknown_report x) c.write_unknown.ensures c.requires.empty)) (knows_no_name (sym c.is_ans.ensures ∙ c.if-is_ans.false) absent, refl))

pub returns-else-forget-clause-kept : goal.returns-else-forget-clause-kept
returns-else-forget-clause-kept c = record {
  ready = record { stands = c.forget.ensures.stands; lists = omega (arith, c.requires.kept.ready.lists, c.forget.ensures.kept.size) };
  held = c.forget.ensures.held;
  room = omega (arith, ap (λ (x : Content). x.capacity) c.write_unknown.ensures, c.requires.kept.room, c.forget.ensures.kept.size);
  served = c.requires.kept.served ∙ sym c.forget.ensures.kept.size;
}
