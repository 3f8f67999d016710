use Rattle.calc_measures.proofs.CeilLog2.{ceil_log2_is}
use Rattle.calc_measures.proofs.laws.computed_bits.Goals as goal

pub returns-clause-enough_bits : goal.returns-clause-enough_bits
returns-clause-enough_bits c = λ n. (ceil_log2_is n).enough

pub returns-clause-least_bits : goal.returns-clause-least_bits
returns-clause-least_bits c = λ n j h. (ceil_log2_is n).least j h
