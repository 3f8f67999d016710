-- A root that is a sum, and calls that change its terms or take one out.
use Rattle.std.specs.Prelude.{ℕ, ◌≡◌, true, ⊤}
use Rattle.calc_terms.specs.Trees.{Trees, is_add}
use Rattle.tree_handles.specs.{Expressions.{plain, children_of}, Forest.{Forest}, Handed.{IsHanded, Gives}, Roots.{root_tree, put}}

-- the trees below a root
abbrev pub terms_in : ℕ → Forest → Trees
terms_in i f = children_of (plain (root_tree i f))

-- a root whose nodes are held once, and which is a sum
pub record IsSum (i : ℕ) (f : Forest) : Type 0 where
  pub handed : IsHanded i f
  pub sum : is_add (plain (root_tree i f)) ≡ true

-- it has other terms, where it stood, and all other trees are as before
pub record Changes (i : ℕ) (old new : Forest) : Type 0 where
  pub kids : Forest
  pub whole : new ≡ put i kids old
  pub sum : IsSum i new

-- and a tree of its own stands last
pub record Takes (i : ℕ) (old new : Forest) (h : ℕ) : Type 0 where
  pub was : IsSum i old
  pub kids : Forest
  pub given : Gives (put i kids old) new h (λ t. ⊤)
  pub sum : IsSum i new
