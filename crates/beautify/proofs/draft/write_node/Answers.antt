use Rattle.beautify.proofs.Steps.{behind_none}
use Rattle.beautify.proofs.draft.write_node.Goals as goal

pub returns-in_err-node-clause-first : goal.returns-in_err-node-clause-first
returns-in_err-node-clause-first c = behind_none c.in_err-node.ensures.full.1
