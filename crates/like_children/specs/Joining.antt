-- Numbers that are joined to one, from left to right.
use Rattle.std.specs.Prelude.{◌≡◌, true}
use Rattle.calc_algebra.specs.{Numbers.{is_number, value}, SquareClasses.{Same}, Surds.{Surd}}
use Rattle.calc_bits.specs.Bounds.{IsNoLarger}
use Rattle.calc_terms.specs.Trees.{Tree, Trees, none, more, append}

-- a Number that is worth two others together, and no larger
pub record IsJoint (both : Surd → Surd → Surd) (a b t : Tree) : Type 0 where
  pub number : is_number t ≡ true
  pub worth : Same (value t) (both (value a) (value b))
  pub no_larger : IsNoLarger (both (value a) (value b)) (value t)

-- what a Number and others behind it become, one after another
abbrev pub AreJoined : (Surd → Surd → Surd) → Tree → Trees → Tree → Type 0
AreJoined both d none t = t ≡ d
AreJoined both d (more x xs) t = (m : Tree) × IsJoint both d x m × AreJoined both m xs t

-- one of them, and what those before it have become
pub record IsNextOf (both : Surd → Surd → Surd) (d : Tree) (ns : Trees) : Type 0 where
  pub first : Trees
  pub next : Tree
  pub rest : Trees
  pub is : ns ≡ append first (more next rest)
  pub so_far : Tree
  pub number : is_number so_far ≡ true
  pub joined : AreJoined both d first so_far
