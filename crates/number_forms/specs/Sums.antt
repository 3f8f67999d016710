-- Sums of terms, of any number of them.
use Rattle.std.specs.{Prelude.{ℕ, zero, suc, ◌≡◌, ◌<◌, ◌≤◌, [], ◌∷◌, false, ⊤}, declared.cmp.Ordering.{Ordering}, declared.cmp.Ordering.TheVariants.{Less, Equal, Greater}}
use Rattle.calc_algebra.specs.{Numbers.{AreTerms, IsTerm, Rises, term_of, terms_of, value}, SquareClasses.{are_alike, Same}, Surds.{Surd, Term}}
use Rattle.calc_bits.specs.Denominators.{SharesDenominators}
use Rattle.calc_terms.specs.Trees.{Tree, add, Trees, none, more, count}
pub use Rattle.child_lists.specs.Changes.{removed}
use Rattle.tree_handles.specs.Expressions.{nth}

-- an Add of any number of terms, whose radicands rise, no two alike
abbrev pub IsSum : Tree → Type 0
IsSum (add ts) = AreTerms ts × Rises (terms_of ts)
IsSum _ = ⊥

-- such a sum that is worth v, over the common denominators of v
pub record IsSumOf (v : Surd) (t : Tree) : Type 0 where
  pub sum : IsSum t
  pub worth : Same (value t) v
  pub parts : SharesDenominators v (value t)

-- alike with the radicand of none of the terms
abbrev pub IsApart : ℕ → Surd → Type 0
IsApart r [] = ⊤
IsApart r (u ∷ v) = (are_alike r u.radicand ≡ false) × IsApart r v

-- the place of a radicand: those before are below it, and the one there is not
pub record IsPlace (n r : ℕ) (ts : Trees) : Type 0 where
  pub within : n ≤ count ts
  pub below : (k : ℕ) → k < n → (term_of (nth k ts)).radicand < r
  pub above : n < count ts → r ≤ (term_of (nth n ts)).radicand

-- the radicand of each of the terms is below b
abbrev pub AreBelow : ℕ → Trees → Type 0
AreBelow b ts = (k : ℕ) → k < count ts → (term_of (nth k ts)).radicand < b

-- the trees from a place on, counted from 0
abbrev pub trees_from : ℕ → Trees → Trees
trees_from zero ts = ts
trees_from (suc n) none = none
trees_from (suc n) (more t ts) = trees_from n ts

-- two terms whose radicands rise, not alike
pub record AreRising (a b : Tree) : Type 0 where
  pub first : IsTerm a
  pub second : IsTerm b
  pub rises : Rises (term_of a ∷ term_of b ∷ [])

-- the order of two terms that stay apart, and Equal of others
abbrev pub Ranks : Ordering → Tree → Tree → Type 0
Ranks Less a b = AreRising a b
Ranks Equal a b = ⊤
Ranks Greater a b = AreRising b a

abbrev pub RanksTerms : Ordering → Term → Term → Type 0
RanksTerms Less x y = Rises (x ∷ y ∷ [])
RanksTerms Equal x y = ⊤
RanksTerms Greater x y = Rises (y ∷ x ∷ [])
