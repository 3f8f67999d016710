-- What the nodes of a tree become, and where its expansion may end without an answer.
use Rattle.std.specs.Prelude.{ℕ, ◌≡◌, ◌<◌, true}
use Rattle.calc_measures.specs.Measures.{most_bits}
use Rattle.calc_terms.specs.Trees.{Tree, Trees}
use Rattle.expansions.specs.{ExpandedTrees.{expanded}, ExpansionRoom.{expansion_room}, PolynomialTrees.{is_polynomial, polynomial_of}}
use Rattle.rational128.specs.declared.overflow.Overflow.{Overflow}
use Rattle.reduce_walk.specs.Answers.{AreAnswers, IsOver as IsOverAnswers}
use Rattle.tree_handles.specs.{Faults.{OfOverflow}, declared.fault.NumberFault.{NumberFault}}

abbrev pub IsPolynomial : Tree → Type 0
IsPolynomial t = is_polynomial t ≡ true

-- the expanded tree of a tree that is a polynomial
abbrev pub IsExpandedFrom : Tree → Tree → Type 0
IsExpandedFrom t u = is_polynomial t ≡ true → u ≡ expanded (polynomial_of t)

abbrev pub AreExpandedFrom : Trees → Trees → Type 0
AreExpandedFrom ts us = AreAnswers IsExpandedFrom ts us

-- a node over the expanded trees of another one's children
abbrev pub IsOver : Tree → Tree → Type 0
IsOver t now = IsOverAnswers IsExpandedFrom t now

-- bytes are lacking only where fewer than a tree's room are at hand
abbrev pub MayLack : Tree → ℕ → Type 0
MayLack t bytes = bytes < expansion_room t

-- and an operation does not fit only where some part has more than 124 bits
abbrev pub MayOverflow : Tree → ℕ → Overflow → Type 0
MayOverflow t place o = 124 < most_bits t

-- it is no operation that does not fit
abbrev pub IsNoOverflow : NumberFault → Type 0
IsNoOverflow f = OfOverflow (λ o. ⊥) f
