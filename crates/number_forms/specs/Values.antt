-- Terms as values, and the Number that they are.
use Rattle.std.specs.Prelude.{◌<◌, ◌^◌, ⊤, List, [], ◌∷◌, map}
use Rattle.calc_algebra.specs.{SquareClasses.{Same}, Surds.{Surd}}
use Rattle.calc_bits.specs.Denominators.{SharesDenominators}
use Rattle.calc_terms.specs.{Fractions.{zero_fraction}, Trees.{Tree, Trees, num, add, none, more}}
use Rattle.number_forms.specs.{Shapes.{term_tree}, Sums.{IsSum}}
use Rattle.surd_terms.specs.{Terms.{term_of}, declared.term.Term.{Term}}

abbrev pub surd_of : List Term → Surd
surd_of ts = map term_of ts

abbrev pub trees_of : List Term → Trees
trees_of [] = none
trees_of (t ∷ ts) = more (term_tree (term_of t)) (trees_of ts)

-- none is 0, and one stands alone
abbrev pub number_tree : List Term → Tree
number_tree [] = num zero_fraction
number_tree (t ∷ []) = term_tree (term_of t)
number_tree (t ∷ u ∷ ts) = add (trees_of (t ∷ u ∷ ts))

-- each radicand is so small that it is square-free
abbrev pub AreSmall : List Term → Type 0
AreSmall [] = ⊤
AreSmall (t ∷ ts) = (t.radicand < 10 ^ 12) × AreSmall ts

-- such terms, whose radicands rise, no two alike
pub record AreListed (ts : List Term) : Type 0 where
  pub sum : IsSum (add (trees_of ts))
  pub small : AreSmall ts

-- such terms that are worth v, over the common denominators of v
pub record AreTermsOf (v : Surd) (ts : List Term) : Type 0 where
  pub listed : AreListed ts
  pub worth : Same (surd_of ts) v
  pub parts : SharesDenominators v (surd_of ts)
