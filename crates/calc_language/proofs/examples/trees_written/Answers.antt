use Rattle.calc_language.proofs.Shared.{refl}
use Rattle.calc_terms.specs.{Fractions.lowest, Gcd.gcd}
use Rattle.calc_language.specs.Texts.{decimal}
use Rattle.calc_language.proofs.examples.trees_written.Goals as goal

pub returns : goal.returns
unfolding decimal gcd lowest
returns c = record {
  parentheses = refl;
  a_difference_in_front = refl;
  a_difference_behind = refl;
  a_quotient_below = refl;
  a_power_of_a_power = refl;
  the_largest_number = refl;
}
