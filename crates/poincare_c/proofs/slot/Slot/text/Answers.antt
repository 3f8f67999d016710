use Rattle.poincare_c.proofs.SlotLemmas.{tells}
use Rattle.poincare_c.proofs.slot.Slot.text.Goals as goal

pub returns-in-Open : goal.returns-in-Open
returns-in-Open c = tells c.args.self.now c.in-Open.held c.in-Open.is c.args.out.now c.text.new.out c.args.count.now c.text.result c.code_of_len.result c.code_of_len.ensures c.text.ensures.count c.text.ensures.copied
