-- The rationals of the code, seen as fractions and as what a node holds.
use Rattle.std.specs.Prelude.{nat_abs}
use Rattle.calc_terms.specs.{declared.rat.Rat.{Rat}, Ratio.{Ratio}, Fractions.{Fraction, lowest}}

-- its numerator and its denominator
abbrev pub ratio_of : Rat → Ratio
ratio_of r = record { num = r.num; den = nat_abs r.den }

-- the fraction that it is
abbrev pub value_of : Rat → Fraction
value_of r = lowest r.num (nat_abs r.den)
