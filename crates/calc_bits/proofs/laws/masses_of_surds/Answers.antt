use Rattle.calc_bits.proofs.{MassLaws.{mass_scale, mass-append, mass_times}, Held.{mass_power}}
use Rattle.calc_bits.proofs.laws.masses_of_surds.Goals as goal

pub returns : goal.returns
returns c = record {
  multiples = mass_scale;
  sums = mass-append;
  products = mass_times;
  powers = mass_power;
}
