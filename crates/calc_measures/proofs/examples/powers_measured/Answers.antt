use Rattle.calc_measures.proofs.Shared.{refl, is_clean, left_of, lowest, one_fraction, zero_fraction, gcd, is_number, square_root}
use Rattle.calc_measures.proofs.examples.powers_measured.Goals as goal

pub returns : goal.returns
unfolding is_number is_clean left_of square_root gcd lowest one_fraction zero_fraction
returns c = record {
  a_negative_power = refl;
  its_denominator = refl;
  a_half = refl;
  its_room = refl;
  a_negative_half = refl;
  a_half_as_one_number = refl;
  no_half = refl;
  a_computed_exponent = refl;
  its_bits = refl;
  no_literal = refl;
  a_symbol_as_exponent = refl;
  nested_exponents = refl;
  a_number_as_exponent = refl;
  a_weight = refl;
  the_weight_of_roots = refl;
  a_load = refl;
  the_load_of_a_number = refl;
}
