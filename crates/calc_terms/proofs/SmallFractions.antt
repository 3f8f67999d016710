-- The fractions 0 and 1, as values and in sums and products.
use Rattle.calc_terms.proofs.Shared.{◌≡◌, ◌∙◌, ap, pos, Fraction, lowest, one_fraction, zero_fraction, Rat, ratio_of, value_of, Ratio, plus_comm, zero_plus, plus, whole}

pub zero_value : (r : Rat) → ratio_of r ≡ whole (pos 0) → value_of r ≡ zero_fraction
unfolding zero_fraction
zero_value r e = ap (λ (x : Ratio). lowest x.num x.den) e

pub one_value : (r : Rat) → ratio_of r ≡ whole (pos 1) → value_of r ≡ one_fraction
unfolding one_fraction
one_value r e = ap (λ (x : Ratio). lowest x.num x.den) e

pub plus_zero : (q : Fraction) → plus q zero_fraction ≡ q
plus_zero q = plus_comm q zero_fraction ∙ zero_plus q
