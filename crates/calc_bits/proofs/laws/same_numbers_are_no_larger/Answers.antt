use Rattle.calc_bits.proofs.NoLarger.{no_larger, no_larger_power}
use Rattle.calc_bits.proofs.laws.same_numbers_are_no_larger.Goals as goal

pub returns-clause-lists : goal.returns-clause-lists
returns-clause-lists c = no_larger

pub returns-clause-powers : goal.returns-clause-powers
returns-clause-powers c = no_larger_power
