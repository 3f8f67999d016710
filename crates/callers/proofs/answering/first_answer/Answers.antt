use Rattle.std.proofs.Common.{◌++◌, ◌∙◌, ap, map}
use Rattle.callers.proofs.Metered.{first_answer}
use Rattle.callers.proofs.answering.first_answer.Goals as goal

pub returns : goal.returns
returns c = first_answer c.line-answer.ensures.step (ap (λ s. s.state) c.in_ok-session.ensures) (c.new-watch.ensures ∙ ap (map _) c.new.ensures.items)
    (c.in_ok-extend_from_slice.ensures.items ∙ ap (λ bytes. bytes ++ c.text.result.now) c.new-text.ensures.items ∙ c.text.ensures)
