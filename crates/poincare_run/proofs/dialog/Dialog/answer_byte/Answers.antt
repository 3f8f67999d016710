use Rattle.poincare_run.proofs.{Shared.{refl, on_ok_weaker, on_err_weaker, ne_eqb, rest_of}, StepLemmas.{goes_by_line, breaks_at_line, goes_by_byte}}
use Rattle.poincare_run.proofs.dialog.Dialog.answer_byte.Goals as goal

pub returns-then-byte-eq10-clause-ok : goal.returns-then-byte-eq10-clause-ok
returns-then-byte-eq10-clause-ok g c = on_ok_weaker c.answer_line.result
    (λ answers start before out h. rw c.if-byte-eq10.true (goes_by_line start before out _ h _ _ _ (answers (rest_of before) h.rest) c.answer_line.ensures.cleared))
    c.answer_line.ensures.ok

pub returns-then-byte-eq10-clause-err : goal.returns-then-byte-eq10-clause-err
returns-then-byte-eq10-clause-err g c = on_err_weaker c.answer_line.result
    (λ fails start before out h. rw c.if-byte-eq10.true (breaks_at_line start before out _ h _ _ (fails (rest_of before) h.rest)))
    c.answer_line.ensures.err

pub returns-clause-ok : goal.returns-clause-ok
returns-clause-ok g c = λ start before out h.
    goes_by_byte start before out _ h _ _ c.args.byte (ne_eqb c.args.byte 10 c.if-byte-eq10.false) refl (c.push.ensures (rest_of before) h.rest)
