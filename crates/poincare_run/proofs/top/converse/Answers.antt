use Rattle.poincare_run.proofs.StatusLemmas.{never_early}
use Rattle.poincare_run.proofs.top.converse.Goals as goal

pub returns-clause-untouched : goal.returns-clause-untouched
returns-clause-untouched g c = never_early c.serve.result _ c.serve.ensures.memory
