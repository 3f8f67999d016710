-- Powers of sums, which are left to be raised where their parent is expanded.
use Rattle.std.specs.Prelude.{◌≡◌, ◌≤◌, ◌<◌, ◌⊎◌, Bool, true, false, ◌||◌}
use Rattle.calc_terms.specs.Trees.{Tree, add, count, power, Trees, none, more}
use Rattle.expansions.specs.{ExpandedTrees.{expanded}, PolynomialTrees.{exponent_of, has_polynomial_root, is_polynomial, polynomial_of}, Sums.{AreExpanded, IsExpanded}}
use Rattle.expand_forms.specs.Walks.{IsOver}
use Rattle.reduce_walk.specs.Answers.{AreAnswers, EachTree, IsOver as IsOverAnswers}
use Rattle.tree_handles.specs.Expressions.{children_of}

abbrev pub is_power_of_sum : Tree → Bool
is_power_of_sum (power (add ts) e) = true
is_power_of_sum _ = false

-- its sum has two terms at most, and its exponent is above 1
abbrev pub IsLeft : Tree → Type 0
IsLeft (power (add ts) e) = (count ts ≤ 2) × (1 < exponent_of e)
IsLeft _ = ⊥

-- one of them is such a power
abbrev pub has_power_of_sum : Trees → Bool
has_power_of_sum none = false
has_power_of_sum (more t ts) = is_power_of_sum t || has_power_of_sum ts

-- an expanded tree, or a power of an expanded sum
abbrev pub IsReady : Tree → Type 0
IsReady t = IsExpanded t ⊎ ((is_power_of_sum t ≡ true) × (has_polynomial_root t ≡ true) × AreExpanded (children_of t))

-- each of them is one
abbrev pub AreReady : Trees → Type 0
AreReady ts = EachTree IsReady ts

-- the expanded tree of a tree that is a polynomial, or the tree over the expanded trees of its children, a power of a sum
abbrev pub IsReadyFrom : Tree → Tree → Type 0
IsReadyFrom t u = is_polynomial t ≡ true → (u ≡ expanded (polynomial_of t)) ⊎ ((is_power_of_sum u ≡ true) × IsOver t u)

abbrev pub AreReadyFrom : Trees → Trees → Type 0
AreReadyFrom ts us = AreAnswers IsReadyFrom ts us

-- a node over what has become of another one's children
abbrev pub IsOverReady : Tree → Tree → Type 0
IsOverReady t now = IsOverAnswers IsReadyFrom t now
