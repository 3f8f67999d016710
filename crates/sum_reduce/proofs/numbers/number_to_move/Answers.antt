use Rattle.sum_reduce.proofs.{Shared.{forest, terms_in}, Numbered.{led_none}}
use Rattle.sum_reduce.proofs.numbers.number_to_move.Goals as goal

pub returns-in_err-first : goal.returns-in_err-first
returns-in_err-first c = rw c.from_residual.ensures (led_none (terms_in c.args.sum.now (forest c.args.pool.now)) c.in_err-first.ensures)
