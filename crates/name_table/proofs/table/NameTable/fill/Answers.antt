-- The last answer first, and then a slot after another.
use Rattle.name_table.proofs.{Shared.{rules, sym, subst, refl, err_from_is_err_and, name_of, AllExpressions}, Filled.{filled_clear, filled_end, filled_faults, filled_first, filled_front}}
use Rattle.name_table.proofs.Filled.{filled_given, filled_more, filled_next, filled_refused, filled_room, next_last, next_rest, next_root, used_item}
use Rattle.name_table.proofs.table.NameTable.fill.Goals as goal

pub returns-in_err-filled-clause-refused : goal.returns-in_err-filled-clause-refused
returns-in_err-filled-clause-refused c =
    let p = err_from_is_err_and c.from_residual.result c.from_residual.ensures.1 in
    rw (p.1, p.2) (filled_refused (record { name = name_of c.ans.result; tree = c.id.result }) c.in_err-filled.field-0.0
    (filled_first (name_of c.ans.result) c.id.result c.self.inside.ans c.self.inside.stored.items c.self.inside.stored.items c.ans.ensures c.id.ensures c.self.view_is refl c.requires.stands c.requires.entries c.requires.last)
    c.in_err-filled.ensures.refused)

pub loop-slot-init : goal.loop-slot-init
loop-slot-init c = record {
  filled =
      filled_more (record { name = name_of c.ans.result; tree = c.id.result })
      (filled_first (name_of c.ans.result) c.id.result c.self.inside.ans c.self.inside.stored.items c.as_slice-slot-items.result.now c.ans.ensures c.id.ensures c.self.view_is c.as_slice-slot-items.ensures.value c.requires.stands c.requires.entries c.requires.last)
      c.fill_name.ensures.stands c.in_ok-filled.ensures.ok c.in_ok-filled.ensures.ok_room c.in_ok-filled.ensures.kept c.fill_name.ensures.front;
  shallow = c.in_ok-filled.ensures.shallow;
}

pub root-requires : goal.root-requires
root-requires c = used_item c.self.inside.stored.items c.as_slice-slot-items.result.now c.loop-slot.slot-index c.slot-item.result c.as_slice-slot-items.ensures.value c.self.invariant c.loop-slot-test.true c.slot-item.is

pub fill_next-requires : goal.fill_next-requires
fill_next-requires c =
    record {
      last = next_last c.loop-slot.invariant.filled;
      root = next_root (record { name = name_of c.slot-item.result.name; tree = c.root.result }) (filled_next c.as_slice-slot-items.result.now c.loop-slot.slot-index c.slot-item.result c.root.result c.loop-slot-test.true c.slot-item.is c.root.ensures c.loop-slot.invariant.filled);
      whole = subst AllExpressions (sym (next_rest c.loop-slot.invariant.filled)) c.requires.entries.whole;
      stands = search rules;
      shallow = search rules;
    }

pub returns-in_err-filled-2 : goal.returns-in_err-filled-2
returns-in_err-filled-2 c =
    let p = err_from_is_err_and c.from_residual-in_err-filled-2.result c.from_residual-in_err-filled-2.ensures.1 in
    record {
      refused = rw (p.1, p.2) (filled_refused (record { name = name_of c.slot-item.result.name; tree = c.root.result }) c.in_err-filled-2.field-0.0 (filled_next c.as_slice-slot-items.result.now c.loop-slot.slot-index c.slot-item.result c.root.result c.loop-slot-test.true c.slot-item.is c.root.ensures c.loop-slot.invariant.filled) c.in_err-filled-2.ensures.refused);
      faults = rw (p.1, p.2) (filled_faults c.fill_next.new.pool c.in_err-filled-2.field-0.0 c.loop-slot.invariant.filled c.in_err-filled-2.ensures.faults);
      front = filled_front c.loop-slot.invariant.filled c.fill_next.ensures.front;
      ok = search rules;
      clear = search rules;
      ok_room = search rules;
      kept = search rules;
      stands = search rules;
    }

pub loop-slot-preserved : goal.loop-slot-preserved
loop-slot-preserved c = record {
  filled =
      filled_more (record { name = name_of c.slot-item.result.name; tree = c.root.result })
      (filled_next c.as_slice-slot-items.result.now c.loop-slot.slot-index c.slot-item.result c.root.result c.loop-slot-test.true c.slot-item.is c.root.ensures c.loop-slot.invariant.filled)
      c.fill_next.ensures.stands c.in_ok-filled-2.ensures.ok c.in_ok-filled-2.ensures.ok_room c.in_ok-filled-2.ensures.kept c.fill_next.ensures.front;
  shallow = c.in_ok-filled-2.ensures.shallow;
}

pub returns-clause-ok : goal.returns-clause-ok
returns-clause-ok c = filled_given (filled_end c.as_slice-slot-items.result.now c.loop-slot.slot-index c.loop-slot-test.false c.loop-slot.invariant.filled)

pub returns-clause-clear : goal.returns-clause-clear
returns-clause-clear c = filled_clear c.requires.entries (filled_end c.as_slice-slot-items.result.now c.loop-slot.slot-index c.loop-slot-test.false c.loop-slot.invariant.filled)

pub returns-clause-ok_room : goal.returns-clause-ok_room
returns-clause-ok_room c = filled_room (filled_end c.as_slice-slot-items.result.now c.loop-slot.slot-index c.loop-slot-test.false c.loop-slot.invariant.filled)
