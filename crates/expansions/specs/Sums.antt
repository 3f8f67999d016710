-- Expanded trees, and sums of terms.
use Rattle.std.specs.Prelude.{◌≡◌, ⊤}
use Rattle.calc_terms.specs.Trees.{Tree, add, Trees, none, more}
use Rattle.expansions.specs.{ExpandedTrees.{IsNormal, expanded, term_trees}, Polynomials.{AreMonomials, Monomial, Polynomial, coefficient_at}, PolynomialTrees.{polynomial_of}}

-- polynomials with the same coefficients
pub record AreSame (v w : Polynomial) : Type 0 where
  pub at : (m : Monomial) → coefficient_at m v ≡ coefficient_at m w

-- an Add over the terms of a normal polynomial, of any number of them
pub record IsSum (t : Tree) : Type 0 where
  pub summands : Polynomial
  pub normal : IsNormal summands
  pub monomials : AreMonomials summands
  pub tree : t ≡ add (term_trees summands)

-- it has the coefficients of a polynomial
pub record IsSumOf (v : Polynomial) (t : Tree) : Type 0 where
  pub sum : IsSum t
  pub same : AreSame sum.summands v

-- the expanded tree of its own polynomial
abbrev pub IsExpanded : Tree → Type 0
IsExpanded t = t ≡ expanded (polynomial_of t)

-- each of them is one
abbrev pub AreExpanded : Trees → Type 0
AreExpanded none = ⊤
AreExpanded (more t ts) = IsExpanded t × AreExpanded ts
