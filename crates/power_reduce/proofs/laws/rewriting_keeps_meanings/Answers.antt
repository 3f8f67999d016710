use Rattle.power_reduce.proofs.Rules.{rewriting}
use Rattle.power_reduce.proofs.laws.rewriting_keeps_meanings.Goals as goal

pub returns : goal.returns
returns c = rewriting
