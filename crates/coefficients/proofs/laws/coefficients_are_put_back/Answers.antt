use Rattle.coefficients.proofs.{Shared.{number_test, coefficient_of}, Coefficients.{taken}}
use Rattle.coefficients.proofs.laws.coefficients_are_put_back.Goals as goal

pub returns : goal.returns
returns c = record {
  number = λ t r d n. number_test (coefficient_of t) (taken t r d n).number;
  monic = λ t r d n. (taken t r d n).monic;
  whole = λ t r d n. (taken t r d n).whole;
}
