use Rattle.poincare_c.proofs.SlotLemmas.{answered, unanswered}
use Rattle.poincare_c.proofs.exports.poincare_answers.Goals as goal

pub returns-in-Ok : goal.returns-in-Ok
returns-in-Ok c = record { answers = answered c.args.pool c.args.lines.now c.args.out.now c.args.count.now c.answers.new.out c.in-Ok.bytes c.code_of_len.result c.in-Ok.ensures.ok c.code_of_len.ensures }

pub returns-in-Err : goal.returns-in-Err
returns-in-Err c = record { answers = unanswered c.args.pool c.args.lines.now c.args.out.now c.args.count.now c.answers.new.out c.in-Err.fault c.code_of_open.result c.in-Err.ensures.size c.code_of_open.ensures c.in-Err.ensures.untouched }
