-- Trees that are polynomials, and the polynomials that they are.
use Rattle.std.specs.Prelude.{ℕ, Bool, true, false, not, ◌&&◌, ◌++◌, [], nat_le, ℤ, pos, Option, Some}
use Rattle.calc_measures.specs.Literals.{whole_literal}
use Rattle.calc_terms.specs.{Fractions.{Fraction, one_fraction, minus_one_fraction, inverse, is_zero_fraction, negative}, Trees.{Tree, num, symbol, undef, add, mult, power, root, neg, sub, div}}
use Rattle.calc_terms.specs.Trees.{Trees, none, more}
use Rattle.expansions.specs.Polynomials.{Polynomial, constant, variable, product, raised, scaled}

-- ---- exponents and divisors

-- the greatest exponent of a power that is a polynomial
abbrev pub exponent_limit : ℕ
exponent_limit = 32

-- a whole number from 1 to that limit
abbrev pub is_small : Option ℤ → Bool
is_small (Some (pos n)) = nat_le 1 n && nat_le n exponent_limit
is_small _ = false

abbrev pub is_exponent : Tree → Bool
is_exponent e = is_small (whole_literal e)

-- a rational other than 0
abbrev pub is_nonzero : Tree → Bool
is_nonzero (num q) = not (is_zero_fraction q)
is_nonzero _ = false

-- a rational other than 0, or the opposite of one
abbrev pub is_divisor : Tree → Bool
is_divisor (neg a) = is_nonzero a
is_divisor t = is_nonzero t

-- ---- polynomials among trees

-- rationals and names; sums, products, opposites and differences of polynomials; their powers with whole exponents
-- from 1 to 32; and quotients of a polynomial and a divisor
abbrev mutual
  pub is_polynomial : Tree → Bool
  is_polynomial (num q) = true
  is_polynomial (symbol x) = true
  is_polynomial undef = false
  is_polynomial (add ts) = are_polynomials ts
  is_polynomial (mult ts) = are_polynomials ts
  is_polynomial (power b e) = is_polynomial b && is_exponent e
  is_polynomial (root a) = false
  is_polynomial (neg a) = is_polynomial a
  is_polynomial (sub a b) = is_polynomial a && is_polynomial b
  is_polynomial (div a c) = is_polynomial a && is_divisor c

  pub are_polynomials : Trees → Bool
  are_polynomials none = true
  are_polynomials (more t ts) = is_polynomial t && are_polynomials ts

-- the root may be that of a polynomial
abbrev pub has_polynomial_root : Tree → Bool
has_polynomial_root undef = false
has_polynomial_root (root a) = false
has_polynomial_root (power b e) = is_exponent e
has_polynomial_root (div a c) = is_divisor c
has_polynomial_root _ = true

-- ---- their polynomials

-- the whole number that an exponent is
abbrev pub natural_of : Option ℤ → ℕ
natural_of (Some (pos n)) = n
natural_of _ = 0

abbrev pub exponent_of : Tree → ℕ
exponent_of e = natural_of (whole_literal e)

-- the fraction that a divisor is
abbrev pub rational_of : Tree → Fraction
rational_of (num q) = q
rational_of _ = one_fraction

abbrev pub divisor_of : Tree → Fraction
divisor_of (neg a) = negative (rational_of a)
divisor_of t = rational_of t

-- the polynomial of a tree; that of a tree which is none has no meaning
abbrev mutual
  pub polynomial_of : Tree → Polynomial
  polynomial_of (num q) = constant q
  polynomial_of (symbol x) = variable x
  polynomial_of undef = []
  polynomial_of (add ts) = sum_of ts
  polynomial_of (mult ts) = product_of ts
  polynomial_of (power b e) = raised (polynomial_of b) (exponent_of e)
  polynomial_of (root a) = []
  polynomial_of (neg a) = scaled minus_one_fraction (polynomial_of a)
  polynomial_of (sub a b) = polynomial_of a ++ scaled minus_one_fraction (polynomial_of b)
  polynomial_of (div a c) = scaled (inverse (divisor_of c)) (polynomial_of a)

  -- of the sum of these trees
  pub sum_of : Trees → Polynomial
  sum_of none = []
  sum_of (more t ts) = polynomial_of t ++ sum_of ts

  -- of their product
  pub product_of : Trees → Polynomial
  product_of none = constant one_fraction
  product_of (more t ts) = product (polynomial_of t) (product_of ts)
