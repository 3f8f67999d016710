use Rattle.tree_room.proofs.{Shared.{◌∙◌, arith}, PowerCounts.{power_counts, exponents_added, exponents_multiplied, joined, of_a_power, of_a_root, of_a_factor}}
use Rattle.tree_room.proofs.laws.powers_counted.Goals as goal

pub returns : goal.returns
returns c = record {
  exponent = power_counts;
  sum = exponents_added;
  product = exponents_multiplied;
  joined = joined;
  of_a_root = λ a h. of_a_root a h ∙ omega arith;
  of_a_power = of_a_power;
  of_a_factor = of_a_factor;
}
