use Rattle.beautify.proofs.Shared.{◌≡◌, ◌∙◌, ◌∷◌, ◌++◌, [], List, length, ap, sym, subst, arith, rules, Noted, Pending, Part, Owes, plain, tree_at, forest, passed_on}
use Rattle.beautify.proofs.{Shared.refuses_after, Steps.{IsWriting, started, resolved, placing, is_node, few_bytes, stands_first, stands_after, all_written}}
use Rattle.beautify.proofs.faces.write_face.Goals as goal

pub loop-next-init : goal.loop-next-init
loop-next-init c =
    let t = plain (tree_at c.args.tree (forest c.args.pool.now)) in
    let first = started c.args.pool.now c.push.new.pending.items c.requires.expression c.requires.showable
    (λ f us r o h. c.push.ensures.owed f us r (subst (λ (ps : List Pending). Owes ps f us r) (sym c.clear-2.ensures.items) o) h) in
    record {
      writing = subst (λ (ns : List Noted). IsWriting c.args.pool.now t c.args.pool.now ns c.push.new.pending.items) (sym c.clear.ensures.items) first;
      few = omega (arith, c.requires.notes, ap length c.clear.ensures.items, c.clear.ensures.capacity);
      notes = omega (arith, c.clear.ensures.capacity);
      pending = omega (arith, c.clear-2.ensures.capacity, c.push.ensures.capacity);
      stands = c.requires.stands;
    }

pub push_part-requires : goal.push_part-requires
push_part-requires c =
    let items : c.loop-next.pending.items ≡ c.pop.new.self.items ++ Part c.in-Part.form c.in-Part.tree ∷ [] = c.in-Some.ensures.items ∙ ap (λ (p : Pending). c.pop.new.self.items ++ p ∷ []) c.in-Part.is in
    let r = resolved c.requires.stands c.loop-next.invariant.stands c.loop-next.invariant.writing items in
    record {
      ready = (resolved c.requires.stands c.loop-next.invariant.stands c.loop-next.invariant.writing items).ready;
      room = omega (arith, r.room, r.most, few_bytes c.args.tree c.args.pool.now c.requires.stands c.requires.expression, c.requires.pending, c.loop-next.invariant.pending, c.pop.ensures.capacity);
      stands = search rules;
    }

pub loop-next-smaller-in-Part : goal.loop-next-smaller-in-Part
loop-next-smaller-in-Part c =
    let items : c.loop-next.pending.items ≡ c.pop.new.self.items ++ Part c.in-Part.form c.in-Part.tree ∷ [] = c.in-Some.ensures.items ∙ ap (λ (p : Pending). c.pop.new.self.items ++ p ∷ []) c.in-Part.is in
    (resolved c.requires.stands c.loop-next.invariant.stands c.loop-next.invariant.writing items).less c.push_part.new.pending.items c.push_part.ensures.owed

pub loop-next-preserved-in-Part : goal.loop-next-preserved-in-Part
loop-next-preserved-in-Part c =
    let items : c.loop-next.pending.items ≡ c.pop.new.self.items ++ Part c.in-Part.form c.in-Part.tree ∷ [] = c.in-Some.ensures.items ∙ ap (λ (p : Pending). c.pop.new.self.items ++ p ∷ []) c.in-Part.is in
    record {
      writing = (resolved c.requires.stands c.loop-next.invariant.stands c.loop-next.invariant.writing items).next c.push_part.new.pending.items c.push_part.ensures.owed;
      few = c.loop-next.invariant.few;
      notes = c.loop-next.invariant.notes;
      pending = omega (arith, c.loop-next.invariant.pending, c.pop.ensures.capacity, c.push_part.ensures.capacity);
      stands = c.loop-next.invariant.stands;
    }

pub write_node-requires : goal.write_node-requires
write_node-requires c =
    let p = placing c.in-Some.next c.loop-next.invariant.writing c.in-Some.ensures.items in
    record { stands = c.loop-next.invariant.stands; node = is_node c.in-Some.next c.in_default-next.not-Part; ready = (p.us, p.ready); room = c.loop-next.invariant.few }

pub loop-next-smaller : goal.loop-next-smaller
loop-next-smaller c = (placing c.in-Some.next c.loop-next.invariant.writing c.in-Some.ensures.items).less c.write_node.new.pool c.write_node.ensures.first

pub loop-next-preserved : goal.loop-next-preserved
loop-next-preserved c =
    let p = placing c.in-Some.next c.loop-next.invariant.writing c.in-Some.ensures.items in
    let e = c.in_ok-write_node-in_default-next.ensures in
    record {
      writing = p.next c.write_node.new.pool c.write_node.new.notes.items (e.ok (forest c.args.pool.now) _ p.us p.ready p.draft) e.kept e.first e.cost;
      few = omega (arith, c.loop-next.invariant.few, e.room, e.capacity);
      notes = omega (arith, c.loop-next.invariant.notes, e.capacity);
      pending = omega (arith, c.loop-next.invariant.pending, c.pop.ensures.capacity);
      stands = e.stands;
    }

pub returns-in_err-write_node-in_default-next : goal.returns-in_err-write_node-in_default-next
returns-in_err-write_node-in_default-next c =
    let p = placing c.in-Some.next c.loop-next.invariant.writing c.in-Some.ensures.items in
    let e = c.in_err-write_node-in_default-next.ensures in
    let full = c.in_err-write_node-in_default-next.field-0.0 in
    record {
      ok = search rules;
      kept = search rules;
      first = stands_after (stands_first c.loop-next.invariant.writing) c.write_node.ensures.first;
      refused = passed_on c.from_residual.result full _ c.from_residual.ensures.0 c.from_residual.ensures.1 (refuses_after c.args.pool.now c.loop-next.pool c.write_node.new.pool full c.loop-next.invariant.writing.kept e.refused);
      caused = passed_on c.from_residual.result full _ c.from_residual.ensures.0 c.from_residual.ensures.1 e.caused;
      room = passed_on c.from_residual.result full _ c.from_residual.ensures.0 c.from_residual.ensures.1 (p.short e.short);
      notes = omega (arith, c.loop-next.invariant.notes, c.write_node.ensures.capacity);
      pending = omega (arith, c.loop-next.invariant.pending, c.pop.ensures.capacity);
      stands = c.write_node.ensures.stands;
    }

pub returns-clause-ok : goal.returns-clause-ok
returns-clause-ok c = all_written c.loop-next.invariant.writing (omega (arith, c.in_default.ensures.cases.0, c.loop-next.pending.ok.0))
