use Rattle.pool_layouts.proofs.Shared.{◌∙◌, sym}
use Rattle.tree_handles.proofs.Readings.{symbol_seen}
use Rattle.pool_layouts.proofs.latex.write_front.Goals as goal

pub name-requires-clause-symbol : goal.name-requires-clause-symbol
name-requires-clause-symbol c = symbol_seen c.args.node c.args.pool.now c.requires.stands c.requires.live (sym c.requires.kind ∙ c.in-Sym.is)
