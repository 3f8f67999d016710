use Rattle.surd_bits.proofs.InversesMeasured.{MeasuredOne, measured_one, one_parts, one_scale, one_mass, Measured, measured, measured_parts, measured_scale, measured_mass, inverse_one_by_one}
use Rattle.surd_bits.proofs.InversesMeasured.{inverse_by_one}
use Rattle.surd_bits.proofs.laws.inverses_measured.Goals as goal

pub returns : goal.returns
returns c = record {
  one = λ a d e m p x y. let z : MeasuredOne a d e = measured_one a d e p.coefficient p.radicand x in (z.factor, z.at_most, one_parts a d e z, one_scale a d e z y.positive, one_mass a m d e z p.coefficient x y);
  two = λ a b d e m p q n x y. let z : Measured a b d e = measured a b d e p.coefficient q.coefficient p.radicand q.radicand n x y in (z.factor, z.at_most, measured_parts a b d e z, measured_scale a b d e z y.positive, measured_mass a b m d e z x.positive (y.whole.1).0);
  one_held_by_one = λ a h l p. inverse_one_by_one a h l p.coefficient p.radicand;
  two_held_by_one = λ a b h l p q. inverse_by_one a b h l p.coefficient q.coefficient p.radicand q.radicand;
}
