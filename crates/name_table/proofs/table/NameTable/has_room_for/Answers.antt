-- A slot of the name was found, or the table is not full.
use Rattle.name_table.proofs.{Shared.{ap, ◌∙◌, sym, name_of}, Slots.{room_found, room_beside}}
use Rattle.name_table.proofs.table.NameTable.has_room_for.Goals as goal

pub returns-then-is_some : goal.returns-then-is_some
returns-then-is_some c = room_found (name_of c.args.name) c.self.inside.stored.items c.as_slice.result.now c.args.self.now (ap (λ t. t.stored) c.self.view_is) c.as_slice.ensures.value c.place_in.result c.place_in.ensures (sym c.is_some.ensures ∙ c.if-is_some.true) c.is_some.result c.if-is_some.true

pub returns-else-is_some : goal.returns-else-is_some
returns-else-is_some c = room_beside (name_of c.args.name) c.self.inside.stored.items c.as_slice.result.now c.args.self.now (ap (λ t. t.stored) c.self.view_is) c.as_slice.ensures.value c.place_in.result c.place_in.ensures (sym c.is_some.ensures ∙ c.if-is_some.false) c.is_full.result c.is_full.ensures.value c.is_full.ensures.fits
