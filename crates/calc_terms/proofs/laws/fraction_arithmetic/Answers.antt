use Rattle.calc_terms.proofs.Shared.{plus_lowest, times_lowest, negative_lowest}
use Rattle.calc_terms.proofs.laws.fraction_arithmetic.Goals as goal

pub returns : goal.returns
returns c = record {
  sum = plus_lowest;
  product = times_lowest;
  negative = negative_lowest;
}
