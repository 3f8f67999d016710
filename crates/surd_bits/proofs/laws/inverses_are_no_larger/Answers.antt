use Rattle.surd_bits.proofs.Inverted.{one_no_larger, two_no_larger}
use Rattle.surd_bits.proofs.laws.inverses_are_no_larger.Goals as goal

pub returns-clause-one : goal.returns-clause-one
returns-clause-one c = λ a p. one_no_larger a p.coefficient p.radicand

pub returns-clause-two : goal.returns-clause-two
returns-clause-two c = λ a b p q. two_no_larger a b p.coefficient q.coefficient p.radicand q.radicand
