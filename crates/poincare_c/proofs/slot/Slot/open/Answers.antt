use Rattle.poincare_c.proofs.{Shared.{◌≡◌, false, rules, opens, is_open, Open}, SlotLemmas.{opening, refuses}}
use Rattle.poincare_c.proofs.slot.Slot.open.Goals as goal

pub returns-in-Ok : goal.returns-in-Ok
returns-in-Ok c =
    let shut : is_open c.args.self.now.standing ≡ false = first_of (cc, search rules) in
    opening c.args.self.now.standing c.args.pool 0 (Open c.in-Ok.held) shut (opens c.in-Ok.ensures.ok)

pub returns-in-Err : goal.returns-in-Err
returns-in-Err c =
    let shut : is_open c.args.self.now.standing ≡ false = first_of (cc, search rules) in
    opening c.args.self.now.standing c.args.pool c.code_of_open.result c.args.self.now.standing shut
    (refuses c.args.pool c.args.self.now.standing c.in-Err.fault c.code_of_open.result c.in-Err.ensures.size c.code_of_open.ensures)
