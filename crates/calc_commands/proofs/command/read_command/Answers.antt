use Rattle.calc_commands.proofs.{Shared.refl, Lines.{answers, answers_none, no_command}}
use Rattle.calc_commands.proofs.command.read_command.Goals as goal

pub returns-in_err-word-clause-none : goal.returns-in_err-word-clause-none
returns-in_err-word-clause-none c = (λ n q h. no_command c.args.line.now q c.in_err-word.ensures h, λ n. rw c.from_residual.ensures refl)

pub returns-clause-some : goal.returns-clause-some
returns-clause-some c = answers c.asked.result c.args.line.now c.in_ok-word.word.now c.in_ok-word.rest.now c.in_ok-word.ensures c.asked.ensures

pub returns-clause-none : goal.returns-clause-none
returns-clause-none c = answers_none c.asked.result c.args.line.now c.in_ok-word.word.now c.in_ok-word.rest.now c.in_ok-word.ensures c.asked.ensures
