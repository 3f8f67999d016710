use Rattle.breakers.proofs.Determined.{told_checks_have_one_outcome}
use Rattle.breakers.proofs.laws.told_checks_have_one_outcome.Goals as goal

pub returns : goal.returns
returns c = told_checks_have_one_outcome
