use Rattle.calc_bits.proofs.Shared.{refl, lowest, one_fraction, gcd, square_root}
use Rattle.calc_bits.proofs.examples.roots_and_magnitudes.Goals as goal

pub returns : goal.returns
unfolding square_root gcd lowest one_fraction
returns c = record {
  of_a_square = refl;
  between_squares = refl;
  of_zero = refl;
  a_magnitude = refl;
}
