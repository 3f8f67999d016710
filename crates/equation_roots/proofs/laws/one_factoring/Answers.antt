use Rattle.equation_roots.proofs.Uniqueness.{one_factoring}
use Rattle.equation_roots.proofs.laws.one_factoring.Goals as goal

pub returns : goal.returns
returns c = one_factoring
