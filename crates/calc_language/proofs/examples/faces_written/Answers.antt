use Rattle.calc_language.proofs.Shared.{refl}
use Rattle.calc_terms.specs.{Fractions.lowest, Gcd.gcd}
use Rattle.calc_language.specs.Texts.{decimal}
use Rattle.calc_language.proofs.examples.faces_written.Goals as goal

pub returns : goal.returns
unfolding decimal gcd lowest
returns c = record {
  a_negative = refl;
  the_root_of_a_quadratic = refl;
  two_roots = refl;
  three_classes = refl;
  a_wide_coefficient = refl;
  a_half = refl;
  below_the_line = refl;
  a_difference = refl;
}
