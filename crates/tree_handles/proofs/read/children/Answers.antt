use Rattle.tree_handles.proofs.{Shared.{sym, ◌∙◌, forest}, Readings.expression_children}
use Rattle.tree_handles.proofs.read.children.Goals as goal

pub returns-clause-plain : goal.returns-clause-plain
returns-clause-plain c = λ h. c.header.ensures.children ∙ sym (expression_children c.args.id (forest c.args.pool.now) h)
