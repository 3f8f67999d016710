use Rattle.calc_bits.proofs.Parts.{term_held, den_held}
use Rattle.calc_bits.proofs.laws.one_term_that_is_held.Goals as goal

pub returns-clause-square : goal.returns-clause-square
returns-clause-square c = term_held

pub returns-clause-denominator : goal.returns-clause-denominator
returns-clause-denominator c = den_held
