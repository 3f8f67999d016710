-- Monomials as lists of their factors, and as nodes that a walk comes to.
use Rattle.std.specs.Prelude.{◌≡◌, ⊤, List, [], ◌∷◌}
use Rattle.expand_forms.specs.{declared.factors.Factor.{Factor as Read}, Terms.{IsRead}}
use Rattle.expansions.specs.{ExpandedTrees.{factor_trees}, Polynomials.{IsMonomial, Monomial}}
use Rattle.tree_handles.specs.{declared.visits.Visit.{Visit}, Expressions.{AllExpressions, plains}, Forest.{Forest}, Visits.{visits_of, AreFound}}

-- factors as the code has them are those of a monomial, in their order
abbrev pub AreRead : List Read → Monomial → Type 0
AreRead [] [] = ⊤
AreRead (x ∷ xs) (f ∷ m) = IsRead x f × AreRead xs m
AreRead _ _ = ⊥

-- the nodes of a monomial's factors are ahead of a walk, and nothing behind them
pub record AreAhead (m : Monomial) (nodes : List Visit) (base : Forest) : Type 0 where
  pub trees : Forest
  pub monomial : IsMonomial m
  pub factors : plains trees ≡ factor_trees m
  pub nodes-are : nodes ≡ visits_of trees
  pub found : AreFound base trees
  pub whole : AllExpressions trees
