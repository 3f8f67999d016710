use Rattle.calc_measures.proofs.Shared.{refl, lowest, plus, times, negative, zero_fraction, one_fraction, gcd}
use Rattle.calc_measures.proofs.examples.nodes_up_to_overflows.Goals as goal

pub returns : goal.returns
unfolding gcd lowest plus times negative zero_fraction one_fraction
returns c = record {
  in_the_first_term = refl;
  in_the_second_term = refl;
  behind_undefined = refl;
  at_the_last_node = refl;
}
