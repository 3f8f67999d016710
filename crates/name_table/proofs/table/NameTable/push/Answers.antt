-- The new slot is used, as the others are.
use Rattle.name_table.proofs.{Shared.{Some, refl, sym, subst, AreUsed}, Slots.used_push}
use Rattle.name_table.proofs.table.NameTable.push.Goals as goal

pub invariant_of-self : goal.invariant_of-self
invariant_of-self c = subst AreUsed (sym c.push.ensures.items) (used_push c.self.inside.stored.items (record { name = c.args.name; tree = Some c.args.tree }) c.self.invariant refl)
