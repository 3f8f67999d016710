-- The roots that are told, as the code has them.
use Rattle.std.specs.Prelude.{List}
use Rattle.calc_terms.specs.Fractions.{Fraction}
use Rattle.equation_roots.specs.{Factorings.{Rest}, Rationals.{rationals_of}, Rests.{rest_of}, declared.told.Roots.{Roots}}

-- the rational ones in rising order, each as often as it is a root
abbrev pub rationals_in : Roots → List Fraction
rationals_in r = rationals_of r.rationals

-- what is left of the polynomial once they are divided out
abbrev pub rest_in : Roots → Rest
rest_in r = rest_of r.rest
