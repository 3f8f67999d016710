use Rattle.tree_bits.proofs.Joined.{factor_to_front, factor_from_front, factor_left_out, factors_joined, addend_to_front, addend_from_front, addend_left_out, addend_replaced, addends_joined}
use Rattle.tree_bits.proofs.laws.what_stays_held.Goals as goal

pub returns : goal.returns
returns c = record {
  factor_to_front = factor_to_front;
  factor_from_front = factor_from_front;
  factor_left_out = factor_left_out;
  factors_joined = factors_joined;
  addend_to_front = addend_to_front;
  addend_from_front = addend_from_front;
  addend_left_out = addend_left_out;
  addend_replaced = addend_replaced;
  addends_joined = addends_joined;
}
