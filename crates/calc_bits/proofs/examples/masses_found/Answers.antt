use Rattle.calc_bits.proofs.Shared.{refl, arith, dvd_of_mod-eq-zero, lowest, one_fraction, gcd, square_root}
use Rattle.calc_bits.proofs.examples.masses_found.Goals as goal

pub returns : goal.returns
unfolding square_root gcd lowest one_fraction
returns c = record {
  over_one = refl;
  over_two = refl;
  a_broken_coefficient = refl;
  a_small_term = refl;
  its_magnitude = refl;
  by_one = record { denominator = 1; parts = record { positive = omega arith; whole = (dvd_of_mod-eq-zero 1 refl, (dvd_of_mod-eq-zero 1 refl, tt)) }; low = omega arith; high = omega arith };
  by_another = record { denominator = 2; parts = record { positive = omega arith; whole = (dvd_of_mod-eq-zero 1 refl, (dvd_of_mod-eq-zero 1 refl, tt)) }; low = omega arith; high = omega arith };
  by_two = record { denominator = 1; parts = record { positive = omega arith; whole = (dvd_of_mod-eq-zero 1 refl, (dvd_of_mod-eq-zero 1 refl, tt)) }; low = omega arith; scale = 2; scaled = record { positive = omega arith; whole = (dvd_of_mod-eq-zero 1 refl, (dvd_of_mod-eq-zero 1 refl, tt)) }; high = omega arith };
}
