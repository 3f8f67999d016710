use Rattle.poincare_c.proofs.SlotLemmas.{answers}
use Rattle.poincare_c.proofs.slot.Slot.line.Goals as goal

pub returns-in-Open : goal.returns-in-Open
returns-in-Open c = answers c.args.self.now c.in-Open.held c.in-Open.is c.line.new.self c.args.line.now c.line.result c.code_of.result c.line.ensures.step c.line.ensures.interrupted c.line.ensures.blank c.line.ensures.draw c.code_of.ensures
