-- The calls one after another, from the trees of the table and the new one.
use Rattle.name_table.proofs.Shared.{rules, ◌≡◌, ◌∙◌, ◌<◌, ap, sym, subst, length, Some, name_of, released_in, has_root, without_root, forest, last_held, IsStorable, name_in}
use Rattle.name_table.proofs.{Later.room-without, Steps.{IsKept, IsNew, answer_after, former_after, is_room, keeps_answer, keeps_named, named_table, old_answer}}
use Rattle.name_table.proofs.table.NameTable.keep.Goals as goal

pub retain-shared-requires : goal.retain-shared-requires
retain-shared-requires c =
    record { live = last_held c.requires.last.ends; room = is_room (record { stands = c.requires.stands; held = c.requires.held; gives = c.requires.last }); stands = search rules }

pub remove-requires-clause-root : goal.remove-requires-clause-root
remove-requires-clause-root c =
    former_after (name_of c.in-Some.name) (record { stands = c.requires.stands; held = c.requires.held; gives = c.requires.last })
    (record { stands = c.retain-shared.ensures.stands; forest_is = c.retain-shared.ensures.forest })

pub push-requires : goal.push-requires
push-requires c =
    let storable : IsStorable (Some (name_of c.in-Some.name)) c.args.self.now = subst (λ o. IsStorable (name_in o) c.args.self.now) c.in-Some.is c.requires.storable in
    subst (λ t. length t.stored < 64) (sym c.remove.ensures.table) (room-without (name_of c.in-Some.name) c.args.self.now c.requires.held.few storable.1)

pub answer-requires-clause-former : goal.answer-requires-clause-former
answer-requires-clause-former c =
    let same : c.push.new.self.ans ≡ c.args.self.now.ans = ap (λ t. t.ans) c.push.ensures ∙ ap (λ t. t.ans) c.remove.ensures.table in
    ap (λ i. has_root i (forest c.remove.new.pool)) same
    ∙ answer_after (record { stands = c.requires.stands; held = c.requires.held; gives = c.requires.last })
    (record { stands = c.retain-shared.ensures.stands; forest_is = c.retain-shared.ensures.forest })
    (record { stands = c.remove.ensures.stands; forest_is = c.remove.ensures.forest })

named : (c : goal.After-answer) → IsKept c.answer.new.self (forest c.args.pool.now) c.answer.new.pool
named c =
    let x = name_of c.in-Some.name in
    let same : c.push.new.self.ans ≡ c.args.self.now.ans = ap (λ t. t.ans) c.push.ensures ∙ ap (λ t. t.ans) c.remove.ensures.table in
    let new : IsNew (name_in c.args.store) c.args.self.now c.args.face (without_root c.args.face (forest c.args.pool.now)) c.args.pool.now = record { stands = c.requires.stands; held = c.requires.held; gives = c.requires.last } in
    keeps_named {x = x}
    (subst (λ o. IsNew (name_in o) c.args.self.now c.args.face (without_root c.args.face (forest c.args.pool.now)) c.args.pool.now) c.in-Some.is new)
    (subst (λ o. IsStorable (name_in o) c.args.self.now) c.in-Some.is c.requires.storable)
    (record { stands = c.retain-shared.ensures.stands; forest_is = c.retain-shared.ensures.forest })
    (record { stands = c.remove.ensures.stands; forest_is = c.remove.ensures.forest })
    c.answer.ensures.stands
    (named_table c.args.self.now c.remove.new.self c.push.new.self c.answer.new.self x c.args.face c.retain-shared.result c.remove.ensures.table c.push.ensures c.retain-shared.ensures.handle c.answer.ensures.table)
    (c.answer.ensures.forest ∙ ap (λ i. released_in i (forest c.remove.new.pool)) same)

pub returns-in-Some : goal.returns-in-Some
returns-in-Some c =
    record { forest = (named c).forest_is; held = (named c).held; table = search rules; kept = search rules; stands = search rules }

pub answer-requires-in-None-clause-former : goal.answer-requires-in-None-clause-former
answer-requires-in-None-clause-former c = old_answer (record { stands = c.requires.stands; held = c.requires.held; gives = c.requires.last })

alone : (c : goal.After-answer-in-None) → IsKept c.answer-in-None.new.self (forest c.args.pool.now) c.answer-in-None.new.pool
alone c =
    let new : IsNew (name_in c.args.store) c.args.self.now c.args.face (without_root c.args.face (forest c.args.pool.now)) c.args.pool.now = record { stands = c.requires.stands; held = c.requires.held; gives = c.requires.last } in
    keeps_answer
    (subst (λ o. IsNew (name_in o) c.args.self.now c.args.face (without_root c.args.face (forest c.args.pool.now)) c.args.pool.now) c.in-None.is new)
    c.answer-in-None.ensures.stands c.answer-in-None.ensures.table c.answer-in-None.ensures.forest

pub returns-in-None : goal.returns-in-None
returns-in-None c =
    record { forest = (alone c).forest_is; held = (alone c).held; table = search rules; kept = search rules; stands = search rules }
