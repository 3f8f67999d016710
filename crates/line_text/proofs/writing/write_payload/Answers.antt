use Rattle.line_text.proofs.Shared.{◌∙◌, sym, number_seen, symbol_seen}
use Rattle.line_text.proofs.writing.write_payload.Goals as goal

pub rational-requires-clause-number : goal.rational-requires-clause-number
rational-requires-clause-number c = number_seen c.args.node c.args.pool.now c.requires.stands c.requires.live (sym c.requires.kind ∙ c.in-Num.is)

pub name-requires-clause-symbol : goal.name-requires-clause-symbol
name-requires-clause-symbol c = symbol_seen c.args.node c.args.pool.now c.requires.stands c.requires.live (sym c.requires.kind ∙ c.in-Sym.is)
