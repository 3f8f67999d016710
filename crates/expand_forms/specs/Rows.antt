-- A row of the products of two expanded trees.
use Rattle.std.specs.Prelude.{ℕ, drop, map}
use Rattle.calc_terms.specs.{Fractions.{Fraction}, Trees.{Tree}}
use Rattle.expansions.specs.{ExpandedTrees.{normal}, Polynomials.{Polynomial, product, summand}, PolynomialTrees.{polynomial_of}}

-- the same monomials, each with the fraction c
abbrev pub with_coefficient : Fraction → Polynomial → Polynomial
with_coefficient c v = map (λ s. summand c s.monomial) v

-- c times the monomial of a term, and each summand of an expanded tree from the n-th on
abbrev pub row : Fraction → Tree → ℕ → Tree → Polynomial
row c t n u = product (with_coefficient c (polynomial_of t)) (drop n (normal (polynomial_of u)))
