use Rattle.calc_language.proofs.ReadLaws.{one_tree}
use Rattle.calc_language.proofs.laws.one_tree.Goals as goal

pub returns : goal.returns
returns c = one_tree
