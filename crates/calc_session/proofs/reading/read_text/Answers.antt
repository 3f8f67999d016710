use Rattle.calc_session.proofs.{Shared.{tokens_of}, ReadLemmas.{read_text}}
use Rattle.calc_session.proofs.reading.read_text.Goals as goal

pub refusal_to_read-requires : goal.refusal_to_read-requires
refusal_to_read-requires c = record { place = (c.args.text.now, (c.read.ensures.refused c.in-Err.fault).0 c.in-Err.is, c.requires) }

pub returns-in-Ok-clause-tree : goal.returns-in-Ok-clause-tree
returns-in-Ok-clause-tree c = (c.in-Ok.ensures.line.tree, read_text c.args.text.now (tokens_of c.read.new.self) c.in-Ok.store c.in-Ok.ensures.tokens c.in-Ok.ensures.line)

pub returns-in-Err-clause-refused : goal.returns-in-Err-clause-refused
returns-in-Err-clause-refused c = c.refusal_to_read.ensures.refused c.args.text.now ((c.read.ensures.refused c.in-Err.fault).0 c.in-Err.is)
