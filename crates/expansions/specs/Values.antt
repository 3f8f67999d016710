-- What a polynomial is worth under an assignment.
use Rattle.std.specs.{Prelude.{ℕ, List, [], ◌∷◌, if◌then◌else◌}, Str.{bytes_eq}}
use Rattle.calc_algebra.specs.Meanings.{Assignment}
use Rattle.calc_terms.specs.{Fits.{fraction_power}, Fractions.{Fraction, plus, times, zero_fraction, one_fraction}}
use Rattle.expansions.specs.Polynomials.{Factor, Monomial, Polynomial, Summand}

-- the fraction that f gives x, and 0 where it gives none
abbrev pub given : Assignment → List ℕ → Fraction
given [] x = zero_fraction
given (b ∷ f) x = if bytes_eq b.name x then b.value else given f x

abbrev pub factor_value : Assignment → Factor → Fraction
factor_value f g = fraction_power (given f g.name) g.exponent

-- the product of its factors
abbrev pub monomial_value : Assignment → Monomial → Fraction
monomial_value f [] = one_fraction
monomial_value f (g ∷ m) = times (factor_value f g) (monomial_value f m)

abbrev pub summand_value : Assignment → Summand → Fraction
summand_value f s = times s.coefficient (monomial_value f s.monomial)

-- the sum of its summands
abbrev pub polynomial_value : Assignment → Polynomial → Fraction
polynomial_value f [] = zero_fraction
polynomial_value f (s ∷ v) = plus (summand_value f s) (polynomial_value f v)
