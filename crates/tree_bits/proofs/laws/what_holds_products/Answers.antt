use Rattle.tree_bits.proofs.Factors.{factor_is_held, factor_as_tree, tree_as_base, multiplied_held, products_held, distributed_held, minus_one_held}
use Rattle.tree_bits.proofs.laws.what_holds_products.Goals as goal

pub returns : goal.returns
returns c = record {
  factors = factor_is_held;
  trees = factor_as_tree;
  bases = tree_as_base;
  two = multiplied_held;
  several = products_held;
  distributed = distributed_held;
  minus_one = minus_one_held;
}
