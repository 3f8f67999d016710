-- A root that is a product, and what is taken out of it.
use Rattle.std.specs.Prelude.{ℕ, ◌≡◌, [], ◌∷◌, false}
use Rattle.calc_terms.specs.Trees.{Tree, mult, Trees}
use Rattle.tree_handles.specs.{Expressions.{plain, children_of}, Forest.{Forest}, Handed.{IsHanded, KeepsFront}, Roots.{has_root, root_tree, without_root}}
use Rattle.calc_algebra.specs.Reduced.{base_of}
use Rattle.product_reduce.specs.Joining.{exponent_of}

-- the trees below a root
abbrev pub factors_in : ℕ → Forest → Trees
factors_in i f = children_of (plain (root_tree i f))

-- a root whose nodes are held once, and which is the product of these factors
pub record IsProduct (i : ℕ) (f : Forest) (ts : Trees) : Type 0 where
  pub handed : IsHanded i f
  pub tree : plain (root_tree i f) ≡ mult ts

-- the root is the product of these factors now; all other trees are as before
pub record Becomes (i : ℕ) (old new : Forest) (ts : Trees) : Type 0 where
  pub product : IsProduct i new ts
  pub others : without_root i new ≡ without_root i old
  pub front : KeepsFront (i ∷ []) old new

-- a root whose nodes are held once, the tree that it is, and the other trees
pub record IsBeside (h : ℕ) (u : Tree) (others f : Forest) : Type 0 where
  pub handed : IsHanded h f
  pub tree : plain (root_tree h f) ≡ u
  pub rest : without_root h f ≡ others
  pub clear : has_root h others ≡ false

-- a tree that was taken out of a product: what is left is the product of these factors, and the trees beside it as before
pub record IsTakenOut (i : ℕ) (ts : Trees) (old new : Forest) (h : ℕ) (u : Tree) : Type 0 where
  pub left : Forest
  pub beside : IsBeside h u left new
  pub becomes : Becomes i old left ts

-- a factor as its base and its exponent
pub record IsSplit (factor : ℕ) (old new : Forest) (b e : ℕ) : Type 0 where
  pub left : Forest
  pub base : IsBeside b (base_of (plain (root_tree factor old))) left new
  pub exponent : IsBeside e (exponent_of (plain (root_tree factor old))) (without_root factor old) left
