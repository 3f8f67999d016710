use Rattle.tree_handles.proofs.{Shared.{sym, ◌∙◌, forest}, Readings.{expression_kind, number_seen, symbol_seen}}
use Rattle.tree_handles.proofs.read.kind.Goals as goal

pub returns-clause-plain : goal.returns-clause-plain
returns-clause-plain c = λ h. c.header.ensures.kind ∙ sym (expression_kind c.args.id (forest c.args.pool.now) h)

pub returns-clause-number : goal.returns-clause-number
returns-clause-number c = λ h. number_seen c.args.id c.args.pool.now c.requires.stands c.requires.live (sym c.header.ensures.kind ∙ h)

pub returns-clause-symbol : goal.returns-clause-symbol
returns-clause-symbol c = λ h. symbol_seen c.args.id c.args.pool.now c.requires.stands c.requires.live (sym c.header.ensures.kind ∙ h)
