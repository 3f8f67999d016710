use Rattle.calc_bits.proofs.{MassLaws.{held_meet}, Held.{held_append, held_times, held_power}}
use Rattle.calc_bits.proofs.laws.what_is_held.Goals as goal

pub returns : goal.returns
returns c = record {
  by_both = held_meet;
  sums = held_append;
  products = held_times;
  powers = held_power;
}
