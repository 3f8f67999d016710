use Rattle.poincare_run.proofs.{Shared.{refl, ne_eqb, rest_of, replies_of}, TallyLemmas.{tallied_by_byte, tallied_by_line}}
use Rattle.poincare_run.proofs.dialog.Dialog.tally_byte.Goals as goal

pub returns-then-byte-ne10-clause-tallied : goal.returns-then-byte-ne10-clause-tallied
returns-then-byte-ne10-clause-tallied g c = λ start before h.
    tallied_by_byte start before _ _ c.args.tally h c.args.byte (ne_eqb c.args.byte 10 c.if-byte-ne10.true) refl (c.push.ensures (rest_of before) h.rest)

pub returns-clause-tallied : goal.returns-clause-tallied
returns-clause-tallied g c = λ start before h.
    let t = c.take_line-answer.ensures.takes (rest_of before) h.rest in
    rw c.if-byte-ne10.false
    (tallied_by_line start before _ _ c.args.tally h c.count.result c.take_line-answer.result _ t c.take_line-answer.ensures.cleared
    (c.count.ensures.value (replies_of h.turns) t.reply h.tally_is t.answer_is (rw c.text.ensures t.text_is)))
