use Rattle.tree_bits.proofs.{HeldTrees.{tree_by_both, part_by_both, parts_multiply}, Numbers.{exponents_within}}
use Rattle.tree_bits.proofs.laws.what_holds_trees.Goals as goal

pub returns : goal.returns
returns c = record { by_both = λ t h k l n. tree_by_both; parts_by_both = λ ts h k l n. part_by_both; exponents = λ t ts h l. exponents_within; products = λ ts us h k l n. parts_multiply }
