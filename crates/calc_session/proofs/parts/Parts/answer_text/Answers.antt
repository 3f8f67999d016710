use Rattle.calc_session.proofs.Shared.{CountsRefusal, ◌≡◌, ◌∙◌, ◌++◌, ap, refl, sym, subst, arith, ◌*◌, states, text, IsWritable, tokens_of, Content, IsHeld, IsKeepable, name_in, plain, tree_at, forest}
use Rattle.calc_session.proofs.{Shared.{given_rest, gives_as, with_answer, is_no_line, state_in, refusal_in, reason_of, IsRolledBack}, PoolLemmas.{kept_but, old_below, rolled_back}}
use Rattle.calc_session.proofs.SessionLemmas.{answers_face, answers_refusal, answers_undefined, answers_unstorable, answers_vain, calm_refusal, face_expression, face_room, face_tree, leaves_answer}
use Rattle.calc_session.proofs.parts.Parts.answer_text.Goals.{After-roll_back, After-roll_back-in-Refused}
use Rattle.calc_session.proofs.{EstimatingLemmas.{no_report}, Shared.{finding_text}}
use Rattle.std.proofs.Common.{None, ℕ, List, length, ◌+◌}
use Rattle.calc_session.proofs.parts.Parts.answer_text.Goals as goal

pub read_text-requires : goal.read_text-requires
read_text-requires g c = let short = c.requires.text.short in omega (arith, short)

pub evaluate-requires : goal.evaluate-requires
evaluate-requires g c = record {
  line = let (t, r) = c.in-Ok.ensures.tree in (t, (name_in c.in-Ok.store, r.line-is));
  kept = record { ready = c.requires.kept.ready; held = c.requires.kept.held; room = c.requires.kept.room; served = c.requires.kept.served };
}

pub write_text-requires : goal.write_text-requires
write_text-requires g c =
    let (t, r) = c.in-Ok.ensures.tree in
    let (u, is, keepable, gives) = c.in-Face.ensures.reply t (name_in c.in-Ok.store, r.line-is) in
    record {
      stands = c.evaluate.ensures.ready.stands;
      expression = face_expression c.evaluate.new.self.work.pool (forest c.args.self.now.work.pool) c.in-Face.face c.id.result u c.evaluate.ensures.ready.stands gives c.id.ensures;
      writable = subst IsWritable (sym (face_tree c.evaluate.new.self.work.pool (forest c.args.self.now.work.pool) c.in-Face.face c.id.result u c.evaluate.ensures.ready.stands gives c.id.ensures)) keepable.writable;
      room = omega (arith, face_room c.evaluate.new.self.work.pool (forest c.args.self.now.work.pool) c.in-Face.face c.id.result u c.evaluate.ensures.ready.stands gives c.id.ensures, c.requires.kept.room, ap (λ (x : Content). x.capacity) c.evaluate.ensures.text, c.in-Face.ensures.counted.size, ap (λ (x : Content). length x.bytes) c.evaluate.ensures.text, ap length c.requires.empty);
    }

pub keep-requires-clause-held : goal.keep-requires-clause-held
keep-requires-clause-held g c =
    let (t, r) = c.in-Ok.ensures.tree in
    let (u, is, keepable, gives) = c.in-Face.ensures.reply t (name_in c.in-Ok.store, r.line-is) in
    rw (c.evaluate.ensures.table) (subst (IsHeld c.args.self.now.table) (sym (given_rest gives)) c.requires.kept.held)

pub keep-requires-clause-last : goal.keep-requires-clause-last
keep-requires-clause-last g c =
    let (t, r) = c.in-Ok.ensures.tree in
    let (u, is, keepable, gives) = c.in-Face.ensures.reply t (name_in c.in-Ok.store, r.line-is) in
    rw (c.evaluate.ensures.table) (gives_as gives (sym (given_rest gives)) (λ x e. subst (IsKeepable (name_in c.in-Ok.store) c.args.self.now.table) (sym e) keepable))

pub returns-in-Err : goal.returns-in-Err
returns-in-Err g c = record {
  answers = answers_vain g.R.Reducer.room g.R.Reducer.bits (states g.B.Breaker.state c.args.watch.now) (states g.B.Breaker.state c.args.watch.now) c.args.line.now (state_in c.args.self.now) c.in-Err.refusal c.args.self.now.text.bytes (is_no_line c.requires.text c.in-Err.ensures.refused) refl c.requires.empty;
  interrupted = calm_refusal c.in-Err.refusal (states g.B.Breaker.state c.args.watch.now) c.in-Err.ensures.no_breaker;
  counted = subst (λ lack. CountsRefusal lack c.args.self.now.work.pool c.args.self.now.work.pool) (sym c.in-Err.ensures.no_pool) (record { size = refl; refusals = refl; last_refused = refl });
  kept = record { ready = c.requires.kept.ready; held = c.requires.kept.held; room = c.requires.kept.room; served = c.requires.kept.served };
}

pub returns-in-Err-check_store : goal.returns-in-Err-check_store
returns-in-Err-check_store g c = record {
  answers = let (t, r) = c.in-Ok.ensures.tree in
      answers_unstorable g.R.Reducer.room g.R.Reducer.bits (states g.B.Breaker.state c.args.watch.now) (states g.B.Breaker.state c.args.watch.now) c.args.line.now (state_in c.args.self.now) (tokens_of c.read_text.new.parser) (name_in c.in-Ok.store) t c.in-Err-check_store.refusal c.args.self.now.text.bytes
      (record { text = c.requires.text; reads = r }) c.in-Err-check_store.ensures.refused refl c.requires.empty;
  interrupted = calm_refusal c.in-Err-check_store.refusal (states g.B.Breaker.state c.args.watch.now) c.in-Err-check_store.ensures.no_breaker;
  counted = subst (λ lack. CountsRefusal lack c.args.self.now.work.pool c.args.self.now.work.pool) (sym c.in-Err-check_store.ensures.no_pool) (record { size = refl; refusals = refl; last_refused = refl });
  kept = record { ready = c.requires.kept.ready; held = c.requires.kept.held; room = c.requires.kept.room; served = c.requires.kept.served };
}

pub returns-in-Face-clause-answers : goal.returns-in-Face-clause-answers
returns-in-Face-clause-answers g c =
    let old = c.args.self.now.work.pool in
    let mid = c.evaluate.new.self.work.pool in
    let store = name_in c.in-Ok.store in
    let (t, r) = c.in-Ok.ensures.tree in
    let (u, is, keepable, gives) = c.in-Face.ensures.reply t (store, r.line-is) in
    let empty = ap (λ (x : Content). x.bytes) c.evaluate.ensures.text ∙ c.requires.empty in
    let told : c.write_text.new.text.bytes ≡ text u
    = ap (λ (x : Content). x.bytes) c.write_text.ensures ∙ ap (λ (b : List ℕ). b ++ text (plain (tree_at c.id.result (forest mid)))) empty ∙ ap text (face_tree mid (forest old) c.in-Face.face c.id.result u c.evaluate.ensures.ready.stands gives c.id.ensures) in
    let leaves = leaves_answer old mid c.keep.new.pool c.args.self.now.table c.keep.new.self c.in-Face.face u store c.requires.kept.ready.stands c.evaluate.ensures.ready.stands gives c.keep.ensures.stands (c.keep.ensures.kept.size ∙ c.in-Face.ensures.counted.size) (c.keep.ensures.table ∙ ap (with_answer store c.in-Face.face) c.evaluate.ensures.table) c.keep.ensures.forest in
    rw (c.answer_with.ensures)
    (answers_face g.R.Reducer.room g.R.Reducer.bits (states g.B.Breaker.state c.args.watch.now) (states g.B.Breaker.state c.evaluate.new.watch) c.args.line.now (state_in c.args.self.now) _ (tokens_of c.read_text.new.parser) store t u c.write_text.new.text.bytes
    (record { reads = record { text = c.requires.text; reads = r }; storable = c.in-Ok-check_store.ensures.ok }) is leaves told)

pub returns-in-Face-clause-kept : goal.returns-in-Face-clause-kept
returns-in-Face-clause-kept g c =
    let size = c.keep.ensures.kept.size ∙ c.in-Face.ensures.counted.size in
    record {
      ready = record { stands = c.keep.ensures.stands; lists = omega (arith, c.evaluate.ensures.ready.lists, c.keep.ensures.kept.size) };
      held = c.keep.ensures.held;
      room = ap (λ (x : Content). x.capacity) c.write_text.ensures ∙ ap (λ (x : Content). x.capacity) c.evaluate.ensures.text ∙ c.requires.kept.room ∙ ap (λ n. 3 * n + 8448) (sym size);
      served = ap (λ d. d.pool_size) c.evaluate.ensures.drafter ∙ c.requires.kept.served ∙ sym size;
    }

pub roll_back-requires : goal.roll_back-requires
roll_back-requires g c = record {
  below = (forest c.args.self.now.work.pool, old_below (c.open_mark-mark.ensures.trees c.requires.kept.ready.stands) c.evaluate.ensures.front);
  stands = c.evaluate.ensures.ready.stands;
}

undone : (g : _) (c : After-roll_back g) → IsRolledBack None c.args.self.now.work.pool c.roll_back.new.pool
undone g c =
    let p = c.args.self.now.work.pool in
    rolled_back None p c.evaluate.new.self.work.pool c.roll_back.new.pool c.requires.kept.ready.stands c.roll_back.ensures.stands c.in-Undefined.ensures.counted c.roll_back.ensures.kept
    (c.roll_back.ensures.forest (forest p) (old_below (c.open_mark-mark.ensures.trees c.requires.kept.ready.stands) c.evaluate.ensures.front))

pub returns-in-Undefined-clause-answers : goal.returns-in-Undefined-clause-answers
returns-in-Undefined-clause-answers g c =
    let (t, r) = c.in-Ok.ensures.tree in
    rw (c.evaluate.ensures.table)
    (answers_undefined g.R.Reducer.room g.R.Reducer.bits (states g.B.Breaker.state c.args.watch.now) (states g.B.Breaker.state c.evaluate.new.watch) c.args.line.now c.args.self.now.work.pool c.roll_back.new.pool c.args.self.now.table (tokens_of c.read_text.new.parser) (name_in c.in-Ok.store) t c.write_undef.new.text.bytes
    (record { reads = record { text = c.requires.text; reads = r }; storable = c.in-Ok-check_store.ensures.ok }) (c.in-Undefined.ensures.reply t (name_in c.in-Ok.store, r.line-is)) (undone g (goal.at.returns-in-Undefined-clause-answers g c).After-roll_back).as_before c.write_undef.ensures.text)

pub returns-in-Undefined-clause-counted : goal.returns-in-Undefined-clause-counted
returns-in-Undefined-clause-counted g c = (undone g (goal.at.returns-in-Undefined-clause-counted g c).After-roll_back).counted

pub returns-in-Undefined-clause-kept : goal.returns-in-Undefined-clause-kept
returns-in-Undefined-clause-kept g c =
    let back = undone g (goal.at.returns-in-Undefined-clause-kept g c).After-roll_back in
    kept_but None c.args.self.now _ c.requires.kept (record { stands = c.roll_back.ensures.stands; lists = omega (arith, c.evaluate.ensures.ready.lists, c.roll_back.ensures.kept.size) }) back.as_before c.evaluate.ensures.table
    (c.write_undef.ensures.capacity ∙ ap (λ (x : Content). x.capacity) c.evaluate.ensures.text) (ap (λ d. d.pool_size) c.evaluate.ensures.drafter)

pub roll_back-requires-in-Refused : goal.roll_back-requires-in-Refused
roll_back-requires-in-Refused g c = record {
  below = (forest c.args.self.now.work.pool, old_below (c.open_mark-mark.ensures.trees c.requires.kept.ready.stands) c.evaluate.ensures.front);
  stands = c.evaluate.ensures.ready.stands;
}

refused_back : (g : _) (c : After-roll_back-in-Refused g) → IsRolledBack (refusal_in (reason_of c.in-Refused.refusal)) c.args.self.now.work.pool c.roll_back-in-Refused.new.pool
refused_back g c =
    let p = c.args.self.now.work.pool in
    rolled_back (refusal_in (reason_of c.in-Refused.refusal)) p c.evaluate.new.self.work.pool c.roll_back-in-Refused.new.pool c.requires.kept.ready.stands c.roll_back-in-Refused.ensures.stands c.in-Refused.ensures.counted c.roll_back-in-Refused.ensures.kept
    (c.roll_back-in-Refused.ensures.forest (forest p) (old_below (c.open_mark-mark.ensures.trees c.requires.kept.ready.stands) c.evaluate.ensures.front))

pub returns-in-Refused-clause-answers : goal.returns-in-Refused-clause-answers
returns-in-Refused-clause-answers g c =
    let (t, r) = c.in-Ok.ensures.tree in
    rw (c.evaluate.ensures.table)
    (answers_refusal g.R.Reducer.room g.R.Reducer.bits (states g.B.Breaker.state c.args.watch.now) (states g.B.Breaker.state c.evaluate.new.watch) c.args.line.now c.args.self.now.work.pool c.roll_back-in-Refused.new.pool c.args.self.now.table (tokens_of c.read_text.new.parser) (name_in c.in-Ok.store) t c.in-Refused.refusal c.evaluate.new.self.text.bytes
    (record { reads = record { text = c.requires.text; reads = r }; storable = c.in-Ok-check_store.ensures.ok }) (c.in-Refused.ensures.reply t (name_in c.in-Ok.store, r.line-is)) (refused_back g (goal.at.returns-in-Refused-clause-answers g c).After-roll_back-in-Refused).as_before (ap (λ (x : Content). x.bytes) c.evaluate.ensures.text ∙ c.requires.empty))

pub returns-in-Refused-clause-counted : goal.returns-in-Refused-clause-counted
returns-in-Refused-clause-counted g c = (refused_back g (goal.at.returns-in-Refused-clause-counted g c).After-roll_back-in-Refused).counted

pub returns-in-Refused-clause-kept : goal.returns-in-Refused-clause-kept
returns-in-Refused-clause-kept g c =
    let back = refused_back g (goal.at.returns-in-Refused-clause-kept g c).After-roll_back-in-Refused in
    kept_but (refusal_in (reason_of c.in-Refused.refusal)) c.args.self.now _ c.requires.kept (record { stands = c.roll_back-in-Refused.ensures.stands; lists = omega (arith, c.evaluate.ensures.ready.lists, c.roll_back-in-Refused.ensures.kept.size) }) back.as_before c.evaluate.ensures.table
    (ap (λ (x : Content). x.capacity) c.evaluate.ensures.text) (ap (λ d. d.pool_size) c.evaluate.ensures.drafter)

pub unreachable-requires : goal.unreachable-requires
unreachable-requires g c =
    let (t, r) = c.in-Ok.ensures.tree in
    no_report g.R.Reducer.room g.R.Reducer.bits (state_in c.args.self.now) (states g.B.Breaker.state c.args.watch.now) (states g.B.Breaker.state c.evaluate.new.watch) (name_in c.in-Ok.store) t (finding_text c.in-Found.field-0) (c.in-Found.ensures.reply t (name_in c.in-Ok.store, r.line-is))
