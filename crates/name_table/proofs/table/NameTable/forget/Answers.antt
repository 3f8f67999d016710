-- The entry is gone, and its tree where nothing else holds it.
use Rattle.name_table.proofs.{Shared.{name_of, forest}, Steps.{IsKept, entry_root, forgets}}
use Rattle.name_table.proofs.table.NameTable.forget.Goals as goal

pub remove-requires-clause-root : goal.remove-requires-clause-root
remove-requires-clause-root c = entry_root (name_of c.args.name) _ _ c.requires.held.roots.1

kept : (c : goal.After-remove) → IsKept c.remove.new.self (forest c.args.pool.now) c.remove.new.pool
kept c = forgets (name_of c.args.name) c.requires.held c.requires.stands c.remove.ensures.stands c.remove.ensures.table c.remove.ensures.forest

pub returns : goal.returns
returns c =
    record { forest = (kept c).forest_is; held = (kept c).held; told = c.remove.ensures.told; table = c.remove.ensures.table; kept = c.remove.ensures.kept; stands = c.remove.ensures.stands }
