use Rattle.poincare_c.proofs.Shared.{◌≡◌, false, refl, rules, subst, sym, Held, IsOpeningStopper, has_closed_session, has_new_session, has_no_room, opens_stopper, is_open, Standing, Open}
use Rattle.poincare_c.proofs.SlotLemmas.{opening_stopper}
use Rattle.poincare_c.proofs.stopper_slot.StopperSlot.open.Goals as goal

pub returns-in-New : goal.returns-in-New
returns-in-New c =
    let old = c.args.self.now.standing in
    let shut : is_open old ≡ false = first_of (cc, search rules) in
    (opening_stopper old c.args.session.now.standing 203 old shut (subst (λ (s : Standing Held). IsOpeningStopper old s 203 old) (sym c.in-New.is) has_new_session), refl)

pub returns-in-Closed : goal.returns-in-Closed
returns-in-Closed c =
    let old = c.args.self.now.standing in
    let shut : is_open old ≡ false = first_of (cc, search rules) in
    (opening_stopper old c.args.session.now.standing 204 old shut (subst (λ (s : Standing Held). IsOpeningStopper old s 204 old) (sym c.in-Closed.is) has_closed_session), refl)

pub returns-in-Ok : goal.returns-in-Ok
returns-in-Ok c =
    let old = c.args.self.now.standing in
    let shut : is_open old ≡ false = first_of (cc, search rules) in
    (opening_stopper old c.args.session.now.standing 0 (Open c.in-Ok.stopper) shut (subst (λ (s : Standing Held). IsOpeningStopper old s 0 (Open c.in-Ok.stopper)) (sym c.in-Open.is) opens_stopper), refl)

pub returns-in-Err : goal.returns-in-Err
returns-in-Err c =
    let old = c.args.self.now.standing in
    let shut : is_open old ≡ false = first_of (cc, search rules) in
    (opening_stopper old c.args.session.now.standing 202 old shut (subst (λ (s : Standing Held). IsOpeningStopper old s 202 old) (sym c.in-Open.is) has_no_room), refl)
