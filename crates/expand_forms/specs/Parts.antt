-- Nodes as sums of trees times fractions, and as products of trees.
use Rattle.std.specs.Prelude.{ℕ, zero, suc, Bool, true, false, List, [], ◌∷◌, ◌++◌}
use Rattle.calc_terms.specs.{Fractions.{Fraction, inverse, minus_one_fraction, one_fraction}, Trees.{Tree, add, mult, power, neg, sub, div, Trees, none, more}}
use Rattle.expansions.specs.{Polynomials.{Polynomial, scaled}, PolynomialTrees.{divisor_of, exponent_of, polynomial_of}}

-- ---- what is added

-- a tree, and by what it is multiplied
pub record Part : Type 0 where
  pub factor : Fraction
  pub tree : Tree

abbrev pub part : Fraction → Tree → Part
part q t = record { factor = q; tree = t }

abbrev pub each_once : Trees → List Part
each_once none = []
each_once (more t ts) = part one_fraction t ∷ each_once ts

-- of a sum, an opposite, a difference or a quotient
abbrev pub parts_of : Tree → List Part
parts_of (add ts) = each_once ts
parts_of (neg a) = part minus_one_fraction a ∷ []
parts_of (sub a b) = part one_fraction a ∷ part minus_one_fraction b ∷ []
parts_of (div a c) = part (inverse (divisor_of c)) a ∷ []
parts_of _ = []

abbrev pub has_parts : Tree → Bool
has_parts (add ts) = true
has_parts (neg a) = true
has_parts (sub a b) = true
has_parts (div a c) = true
has_parts _ = false

-- by what the child at a place is multiplied
abbrev pub part_factor : Tree → ℕ → Fraction
part_factor (neg a) n = minus_one_fraction
part_factor (sub a b) (suc n) = minus_one_fraction
part_factor (div a c) n = inverse (divisor_of c)
part_factor _ n = one_fraction

abbrev pub total : List Part → Polynomial
total [] = []
total (p ∷ ps) = scaled p.factor (polynomial_of p.tree) ++ total ps

-- ---- what is multiplied

abbrev pub repeated : ℕ → Tree → Trees
repeated zero t = none
repeated (suc n) t = more t (repeated n t)

-- of a product or a power
abbrev pub multiplied : Tree → Trees
multiplied (mult ts) = ts
multiplied (power b e) = repeated (exponent_of e) b
multiplied _ = none

abbrev pub has_factors : Tree → Bool
has_factors (mult ts) = true
has_factors (power b e) = true
has_factors _ = false
