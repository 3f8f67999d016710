use Rattle.poincare_c.proofs.SlotLemmas.{answers_within}
use Rattle.poincare_c.proofs.slot.Slot.line_within.Goals as goal

pub returns-in-Open : goal.returns-in-Open
returns-in-Open c = answers_within c.args.self.now c.in-Open.held c.in-Open.is c.line_within.new.self c.args.line.now c.args.checks c.line_within.result c.code_of.result c.line_within.ensures.within c.code_of.ensures
