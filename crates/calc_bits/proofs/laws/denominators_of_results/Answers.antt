use Rattle.calc_bits.proofs.{Quotients.{plus_den, times_den, multiple_den}, Fitting.{power_den}}
use Rattle.calc_bits.proofs.laws.denominators_of_results.Goals as goal

pub returns : goal.returns
returns c = record {
  sums = plus_den;
  products = times_den;
  whole_multiples = multiple_den;
  powers = power_den;
}
