use Rattle.calc_measures.proofs.Shared.{refl, lowest, plus, times, negative, zero_fraction, one_fraction, gcd}
use Rattle.calc_measures.proofs.examples.plain_values.Goals as goal

pub returns : goal.returns
unfolding gcd lowest plus times negative zero_fraction one_fraction
returns c = record {
  a_sum = refl;
  a_difference = refl;
  an_inverse_power = refl;
  a_division_by_zero = refl;
  zero_to_the_zero = refl;
  zero_to_a_negative = refl;
  undefined_in_a_sum = refl;
  a_product_overflows = refl;
  a_power_overflows = refl;
  an_inverse_power_overflows = refl;
  an_overflow_behind_undefined = refl;
  a_broken_exponent = refl;
  a_symbol = refl;
  a_root = refl;
}
