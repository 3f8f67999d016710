use Rattle.calc_bits.proofs.{MassLaws.{parts_scale, parts_append, parts_times}, Held.{parts_power}}
use Rattle.calc_bits.proofs.laws.denominators_of_surds.Goals as goal

pub returns : goal.returns
returns c = record {
  multiples = parts_scale;
  sums = parts_append;
  products = parts_times;
  powers = parts_power;
}
