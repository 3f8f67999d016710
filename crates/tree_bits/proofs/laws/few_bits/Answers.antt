use Rattle.tree_bits.proofs.FewBits.{few_simple, few_parts, high_positive}
use Rattle.tree_bits.proofs.laws.few_bits.Goals as goal

pub returns : goal.returns
returns c = record { simple = few_simple; parts = few_parts; positive = high_positive }
