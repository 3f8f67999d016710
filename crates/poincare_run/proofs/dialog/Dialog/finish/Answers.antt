use Rattle.poincare_run.proofs.{Shared.{◌≡◌, true, List, [], ℕ, on_ok_weaker, on_err_weaker, Holds, rest_of}, StepLemmas.{ends_in_newline, ends_in_line, breaks_at_end}}
use Rattle.poincare_run.proofs.dialog.Dialog.finish.Goals as goal

pub returns-then-is_empty-clause-ok : goal.returns-then-is_empty-clause-ok
returns-then-is_empty-clause-ok g c = λ start input out h. ends_in_newline start input out _ h _ ((c.is_empty.ensures (rest_of input) h.rest).0 c.if-is_empty.true)

-- where the buffer is not empty
some : (g : _) (c : goal.After-answer_line g) (input : List ℕ) → Holds c.args.self.now.line (rest_of input) → rest_of input ≡ [] → ⊥
some g c input h none = let empty : c.is_empty.result ≡ true = (c.is_empty.ensures (rest_of input) h).1 none in let f = c.if-is_empty.false in cc

pub returns-clause-ok : goal.returns-clause-ok
returns-clause-ok g c = on_ok_weaker c.answer_line.result
    (λ answers start input out h. ends_in_line start input out _ h _ _ _ (some g c input h.rest) (answers (rest_of input) h.rest)) c.answer_line.ensures.ok

pub returns-clause-err : goal.returns-clause-err
returns-clause-err g c = on_err_weaker c.answer_line.result
    (λ fails start input out h. breaks_at_end start input out _ h _ _ (some g c input h.rest) (fails (rest_of input) h.rest)) c.answer_line.ensures.err
