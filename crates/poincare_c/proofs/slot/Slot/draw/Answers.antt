use Rattle.poincare_c.proofs.SlotLemmas.{finds_no_room, pictures}
use Rattle.poincare_c.proofs.slot.Slot.draw.Goals as goal

pub returns-in-Picture : goal.returns-in-Picture
returns-in-Picture c = pictures c.args.self.now c.in-Open.held c.in-Open.is c.draw.new.self c.draw.result c.args.out.now c.draw.new.out c.args.count.now c.in-Picture.bytes c.draw.ensures.drawn c.draw.ensures.state c.draw.ensures.text c.draw.ensures.breakers c.code_of_len.result c.in-Picture.is c.code_of_len.ensures

pub returns-in-Full : goal.returns-in-Full
returns-in-Full c = finds_no_room c.args.self.now c.in-Open.held c.in-Open.is c.draw.new.self c.draw.result c.args.out.now c.draw.new.out c.args.count.now c.in-Full.bytes c.draw.ensures.drawn c.draw.ensures.state c.draw.ensures.text c.draw.ensures.breakers c.in-Full.is
