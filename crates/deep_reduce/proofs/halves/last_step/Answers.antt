use Rattle.deep_reduce.proofs.Shared.{passed_on}
use Rattle.deep_reduce.proofs.halves.last_step.Goals as goal

pub returns-in_err-answer-clause-room : goal.returns-in_err-answer-clause-room
returns-in_err-answer-clause-room c = λ gs s w. passed_on c.from_residual.result c.in_err-answer.field-0.0 _ c.from_residual.ensures.0 c.from_residual.ensures.1 (c.in_err-answer.ensures.room gs s w)
