-- Terms, and the terms of an expanded tree.
use Rattle.std.specs.{Prelude.{ℕ, ◌≡◌, ◌≢◌, if◌then◌else◌}, declared.cmp.Ordering.{Ordering}}
use Rattle.calc_algebra.specs.{Reduced.{product_tree}, TreeOrder.{tree_cmp}}
use Rattle.calc_terms.specs.{Fractions.{Fraction, is_one_fraction, is_zero_fraction, one_fraction, zero_fraction}, Trees.{Tree, num, add, mult, Trees, none, more}}
use Rattle.expansions.specs.{ExpandedTrees.{factor_trees, term_tree}, Polynomials.{IsMonomial, Monomial, Summand}}

-- ---- a term

-- the rational in front, or 1
abbrev pub coefficient_in : Tree → Fraction
coefficient_in (num q) = q
coefficient_in (mult (more (num q) ts)) = q
coefficient_in _ = one_fraction

-- the other factors
abbrev pub factors_in : Tree → Trees
factors_in (num q) = none
factors_in (mult (more (num q) ts)) = ts
factors_in (mult ts) = ts
factors_in t = more t none

-- the place of a product's first factor among its children
abbrev pub first_place : Trees → ℕ
first_place (more (num q) ts) = 1
first_place _ = 0

-- the product of the factors
abbrev pub monomial_in : Tree → Tree
monomial_in t = product_tree (factors_in t)

-- terms are in the order of their monomials
abbrev pub term_cmp : Tree → Tree → Ordering
term_cmp t u = tree_cmp (monomial_in t) (monomial_in u)

-- a fraction other than 0 times a monomial
pub record IsTerm (t : Tree) : Type 0 where
  pub summand : Summand
  pub nonzero : summand.coefficient ≢ zero_fraction
  pub monomial : IsMonomial summand.monomial
  pub tree : t ≡ term_tree summand

-- the factors are those of a monomial
pub record HasMonomial (m : Monomial) (t : Tree) : Type 0 where
  pub monomial : IsMonomial m
  pub factors : factors_in t ≡ factor_trees m

-- a rational before factors, where it is not 1 or there is no factor
abbrev pub led_by : Fraction → Trees → Trees
led_by q none = more (num q) none
led_by q (more t ts) = if is_one_fraction q then more t ts else more (num q) (more t ts)

-- ---- the terms of an expanded tree

abbrev pub terms_in : Tree → Trees
terms_in (add ts) = ts
terms_in (num q) = if is_zero_fraction q then none else more (num q) none
terms_in t = more t none
