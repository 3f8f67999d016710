use Rattle.calc_room.proofs.Shared.{refl, is_clean, left_of, lowest, one_fraction, zero_fraction, gcd, is_number, square_root}
use Rattle.calc_room.proofs.examples.nodes_counted.Goals as goal

pub returns-clause-a_difference : goal.returns-clause-a_difference
unfolding is_number is_clean left_of square_root gcd lowest one_fraction zero_fraction
returns-clause-a_difference c = refl

pub returns-clause-a_wide_coefficient : goal.returns-clause-a_wide_coefficient
unfolding is_number is_clean left_of square_root gcd lowest one_fraction zero_fraction
returns-clause-a_wide_coefficient c = refl

pub returns-clause-a_spliced_coefficient : goal.returns-clause-a_spliced_coefficient
unfolding is_number is_clean left_of square_root gcd lowest one_fraction zero_fraction
returns-clause-a_spliced_coefficient c = refl

pub returns-clause-an_opaque_power : goal.returns-clause-an_opaque_power
unfolding is_number is_clean left_of square_root gcd lowest one_fraction zero_fraction
returns-clause-an_opaque_power c = refl

pub returns-clause-a_wide_number : goal.returns-clause-a_wide_number
unfolding is_number is_clean left_of square_root gcd lowest one_fraction zero_fraction
returns-clause-a_wide_number c = refl
