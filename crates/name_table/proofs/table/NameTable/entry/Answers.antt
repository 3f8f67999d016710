-- The slot at a place is used, and is the entry there.
use Rattle.name_table.proofs.{Shared.{ap, ◌∙◌, sym, Some, name_of}, Slots.slot_read}
use Rattle.name_table.proofs.table.NameTable.entry.Goals as goal

pub root-requires : goal.root-requires
root-requires c = (slot_read c.self.inside.stored.items c.as_slice.result.now c.args.self.now.stored c.args.at c.from.result c.index-as_slice-from.result (ap (λ t. t.stored) c.self.view_is) c.as_slice.ensures.value c.from.ensures c.index-as_slice-from.is c.requires c.self.invariant).0

pub returns : goal.returns
returns c =
    (slot_read c.self.inside.stored.items c.as_slice.result.now c.args.self.now.stored c.args.at c.from.result c.index-as_slice-from.result (ap (λ t. t.stored) c.self.view_is) c.as_slice.ensures.value c.from.ensures c.index-as_slice-from.is c.requires c.self.invariant).1
    ∙ ap (λ r. Some (record { name = name_of c.index-as_slice-from.result.name; tree = r })) (sym c.root.ensures)
