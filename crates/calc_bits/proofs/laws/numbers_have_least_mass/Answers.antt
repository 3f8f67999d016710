use Rattle.calc_bits.proofs.{Shared.{value, number_words, value_proper, value_rises}, ClassMasses.{mass_same}}
use Rattle.calc_bits.proofs.laws.numbers_have_least_mass.Goals as goal

pub returns : goal.returns
returns c = λ m k e t v h. mass_same m k e (value t) v (value_proper t (number_words t h)) (value_rises t (number_words t h))
