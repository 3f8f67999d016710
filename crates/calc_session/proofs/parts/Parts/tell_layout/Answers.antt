use Rattle.std.proofs.Common.{rules, ◌≡◌, Ok, Err, refl, sym, ap, subst, arith}
use Rattle.calc_session.proofs.{Shared.{told_by, IsExpression, forest, Refusal, CountsRefusal, reason_of, lack_in, layout_reply, told_at, refusal_in}, DrawingLemmas.{answer_expression}}
use Rattle.calc_session.proofs.{EvaluationLemmas.{size_kept}, PoolLemmas.{kept_but}, SessionLemmas.{same_after}}
use Rattle.calc_session.proofs.parts.Parts.tell_layout.Goals as goal

pub write_layout-requires-clause-expression : goal.write_layout-requires-clause-expression
write_layout-requires-clause-expression c = subst (λ i. IsExpression i (forest c.args.self.now.work.pool)) (sym c.ans-answer.ensures) (answer_expression c.requires.kept.ready.stands c.requires.kept.held)

pub write_layout-requires-clause-room : goal.write_layout-requires-clause-room
write_layout-requires-clause-room c = omega (arith, c.requires.kept.room)

pub write_layout-requires-clause-served : goal.write_layout-requires-clause-served
write_layout-requires-clause-served c = omega (arith, c.requires.kept.served)

pub returns-in-Ok : goal.returns-in-Ok
returns-in-Ok c = record {
  told = sym (ap layout_reply (subst (λ i. told_at (told_by c.args.notation) i c.args.self.now.work.pool ≡ Ok c.write_layout.new.text.bytes) c.ans-answer.ensures c.in-Ok.ensures.told));
  no_interruption = search rules;
  counted = subst (λ r. CountsRefusal (lack_in r) c.args.self.now.work.pool c.write_layout.new.pool) c.in-Ok.ensures.told c.write_layout.ensures.undone.counted;
  same = same_after _ c.args.self.now.work.pool c.write_layout.new.pool c.args.self.now.table c.write_layout.ensures.undone.as_before;
  kept = kept_but _ c.args.self.now _ c.requires.kept (record { stands = c.write_layout.ensures.stands; lists = omega (arith, c.requires.kept.ready.lists, size_kept _ _ _ c.write_layout.ensures.undone.counted) }) c.write_layout.ensures.undone.as_before refl c.write_layout.ensures.capacity c.write_layout.ensures.served;
}

pub returns-in-Err : goal.returns-in-Err
returns-in-Err c = record {
  told = rw (c.refused.ensures) (sym (ap layout_reply (subst (λ i. told_at (told_by c.args.notation) i c.args.self.now.work.pool ≡ Err c.in-Err.full) c.ans-answer.ensures c.in-Err.ensures.full)), c.in-Err.ensures.untold);
  no_interruption = search rules;
  counted =
      subst (λ (r : Refusal). CountsRefusal (refusal_in (reason_of r)) c.args.self.now.work.pool c.write_layout.new.pool) (sym c.refused.ensures)
      (subst (λ r. CountsRefusal (lack_in r) c.args.self.now.work.pool c.write_layout.new.pool) c.in-Err.ensures.full c.write_layout.ensures.undone.counted);
  same = same_after _ c.args.self.now.work.pool c.write_layout.new.pool c.args.self.now.table c.write_layout.ensures.undone.as_before;
  kept = kept_but _ c.args.self.now _ c.requires.kept (record { stands = c.write_layout.ensures.stands; lists = omega (arith, c.requires.kept.ready.lists, size_kept _ _ _ c.write_layout.ensures.undone.counted) }) c.write_layout.ensures.undone.as_before refl c.write_layout.ensures.capacity c.write_layout.ensures.served;
}
