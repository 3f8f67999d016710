use Rattle.calc_bits.proofs.HeldByOne.{append_by_one, times_by_one, power_by_one}
use Rattle.calc_bits.proofs.laws.what_is_held_by_one.Goals as goal

pub returns : goal.returns
returns c = record {
  sums = append_by_one;
  products = times_by_one;
  powers = power_by_one;
}
