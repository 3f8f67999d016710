use Rattle.surd_bits.proofs.InversesFit.{inverse_fits, inverse_of_sum_fits, inverse_held, inverse_of_sum_held}
use Rattle.surd_bits.proofs.laws.inverses_fit.Goals as goal

pub returns : goal.returns
returns c = record {
  one = λ a h l p k. inverse_fits a h l p.coefficient p.radicand k;
  two = λ a b h l p q n k. inverse_of_sum_fits a b h l p.coefficient q.coefficient p.radicand q.radicand n k;
  one_held = λ a h l p k. inverse_held a h l p.coefficient p.radicand k;
  two_held = λ a b h l p q n k. inverse_of_sum_held a b h l p.coefficient q.coefficient p.radicand q.radicand n k;
}
