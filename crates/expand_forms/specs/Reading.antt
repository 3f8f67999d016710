-- Expanded trees read into sorted lists of terms.
use Rattle.std.specs.Prelude.{ℕ, ◌≡◌, ◌≢◌, ⊤, List, [], ◌∷◌, drop, Option}
use Rattle.calc_terms.specs.Trees.{Tree}
use Rattle.expand_forms.specs.{declared.factors.Factor.{Factor as Read}, Listed.{AreAhead}, Merging.{BeginsWith}}
use Rattle.expansions.specs.{ExpandedTrees.{term_tree}, ExpansionRoom.{IsNamed}, Named.{led}, Polynomials.{IsMonomial, Monomial, Summand}}
use Rattle.tree_handles.specs.{Forest.{Forest}, declared.visits.Visit.{Visit}}

-- ---- factors

-- the first factor, where there is one, has another name
abbrev pub BeginsOtherwise : List ℕ → Monomial → Type 0
BeginsOtherwise x [] = ⊤
BeginsOtherwise x (f ∷ m) = f.name ≢ x

-- of a monomial's factors the first one is read, and the others are ahead of a walk
pub record AreComing (m : Monomial) (next : Option Read) (nodes : List Visit) (base : Forest) : Type 0 where
  pub monomial : IsMonomial m
  pub begins : BeginsWith next m
  pub ahead : AreAhead (drop 1 m) nodes base

-- the exponent of a name is taken from a monomial that has no name before it
pub record IsTaken (m : Monomial) (x : List ℕ) (e : ℕ) (next : Option Read) (nodes : List Visit) (base : Forest) : Type 0 where
  pub rest : Monomial
  pub split : m ≡ led x e rest
  pub other : e ≡ 0 → BeginsOtherwise x rest
  pub coming : AreComing rest next nodes base

-- ---- terms

-- the tree of a summand of an expanded tree, whose factors have these names
pub record IsSummandTree (ns : List (List ℕ)) (s : Summand) (t : Tree) : Type 0 where
  pub monomial : IsMonomial s.monomial
  pub named : IsNamed ns s.monomial
  pub tree : t ≡ term_tree s
