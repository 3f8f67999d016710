use Rattle.pool_checkpoints.proofs.Shared.{◌∙◌, used_forest}
use Rattle.pool_checkpoints.proofs.marks.open_mark.Goals as goal

pub returns-clause-trees : goal.returns-clause-trees
returns-clause-trees c = λ st. c.used.ensures.value ∙ used_forest c.args.pool.now st
