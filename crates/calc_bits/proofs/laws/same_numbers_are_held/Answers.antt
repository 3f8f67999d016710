use Rattle.calc_bits.proofs.{Shared.{value, number_words, value_proper, value_rises}, Parts.{mass_of_same, held_same, held_same_by_one}}
use Rattle.calc_bits.proofs.laws.same_numbers_are_held.Goals as goal

pub returns : goal.returns
returns c = record {
  mass = λ m e t v a. mass_of_same m e (value t) v (value_proper t (number_words t a)) (value_rises t (number_words t a));
  held = λ t v h l a. held_same (value t) v h l (value_proper t (number_words t a)) (value_rises t (number_words t a));
  by_one = λ t v h l a. held_same_by_one (value t) v h l (value_proper t (number_words t a)) (value_rises t (number_words t a));
}
