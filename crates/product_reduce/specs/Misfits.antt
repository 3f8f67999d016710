-- Which operation does not fit where factors are multiplied.
use Rattle.std.specs.Prelude.{◌≡◌, ◌≤◌}
use Rattle.calc_algebra.specs.Numbers.{value}
use Rattle.calc_measures.specs.{PlainTrees.{IsPlainOverflow}, PlainValues.{calculated}}
use Rattle.calc_terms.specs.{Fits.{mul_op}, Trees.{Tree, num, Trees, none, more, append, count}}
use Rattle.coefficients.specs.Overflows.{NamesPut}
use Rattle.number_forms.specs.{Answers.{IsNumberOf}, Overflows.{ProductOverflows}}
use Rattle.product_reduce.specs.Factors.{opened, numbers_in, others_in, IsCoefficient, product_of_values}
use Rattle.rational128.specs.declared.overflow.Overflow.{Overflow}

-- two Numbers are multiplied: two rationals, or the terms of the one with those of the other
abbrev pub NamesProduct : Tree → Tree → Overflow → Type 0
NamesProduct (num p) (num q) o = IsPlainOverflow (calculated mul_op p q) o
NamesProduct a b o = ProductOverflows (value a) (value b) o

-- Numbers from left to right: the product of the first ones, as one Number, is multiplied by the next one
pub record MultiplyingOverflows (ns : Trees) (o : Overflow) : Type 0 where
  pub first : Trees
  pub next : Tree
  pub rest : Trees
  pub is : ns ≡ append first (more next rest)
  pub some : 1 ≤ count first
  pub so_far : Tree
  pub product : IsNumberOf (product_of_values first) so_far
  pub named : NamesProduct so_far next o

-- a coefficient and the only other factor: it is multiplied into the terms of that sum
pub record SpreadingOverflows (c : Tree) (ts : Trees) (o : Overflow) : Type 0 where
  pub sum : Tree
  pub alone : ts ≡ more sum none
  pub named : NamesPut c sum o

-- in the product of these factors, products in it opened: the Numbers are multiplied, or their product into a sum
pub data IsFactorMisfit (ts : Trees) (o : Overflow) : Type 0 where
  multiplying : MultiplyingOverflows (numbers_in (opened ts)) o → IsFactorMisfit ts o
  spreading : (c : Tree) → IsCoefficient c (opened ts) → SpreadingOverflows c (others_in (opened ts)) o → IsFactorMisfit ts o
