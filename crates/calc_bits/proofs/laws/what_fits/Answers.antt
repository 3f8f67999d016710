use Rattle.calc_bits.proofs.{Shared.{nat_abs, fraction_power, times}, Fitting.{sum_fits_over, quotient_fits}}
use Rattle.calc_bits.proofs.laws.what_fits.Goals as goal

pub returns : goal.returns
returns c = record {
  sums = sum_fits_over;
  products = λ a b n d. quotient_fits (times a b) n d;
  powers = λ a b n d. quotient_fits (fraction_power a (nat_abs b.num)) n d;
}
