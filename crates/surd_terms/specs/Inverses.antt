-- Inverses of terms, by the conjugate.
use Rattle.std.specs.Prelude.{pos}
use Rattle.calc_terms.specs.Fractions.{Fraction, plus, times, negative, inverse, whole_fraction}
use Rattle.calc_algebra.specs.Surds.{Term, term}

-- 1/(c * √r)
abbrev pub inverse_of : Term → Term
inverse_of a = term (inverse (times a.coefficient (whole_fraction (pos a.radicand)))) a.radicand

-- c * c * r
abbrev pub square_of : Term → Fraction
square_of a = times (times a.coefficient a.coefficient) (whole_fraction (pos a.radicand))

-- a * a - b * b, which is the sum of a and b times their difference
abbrev pub conjugate_product : Term → Term → Fraction
conjugate_product a b = plus (square_of a) (negative (square_of b))

-- a over the product of conjugates
abbrev pub first_of_inverse : Term → Term → Term
first_of_inverse a b = term (times a.coefficient (inverse (conjugate_product a b))) a.radicand

-- -b over the product of conjugates
abbrev pub second_of_inverse : Term → Term → Term
second_of_inverse a b = term (times (negative b.coefficient) (inverse (conjugate_product a b))) b.radicand
