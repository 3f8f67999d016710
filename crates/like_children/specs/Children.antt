-- A root that has other children, and a tree beside it.
use Rattle.std.specs.Prelude.{ℕ, ◌≡◌, ◌⊎◌, true, ⊤}
use Rattle.calc_terms.specs.Trees.{Tree, Trees, is_add, is_mult}
use Rattle.tree_handles.specs.{Forest.{Forest}, Handed.{Represents, Gives}, Roots.{put}}

abbrev pub IsSumOrProduct : Tree → Type 0
IsSumOrProduct t = (is_add t ≡ true) ⊎ (is_mult t ≡ true)

-- a root has these children now, where it stood, and all other trees are as before
pub record HasChildren (i : ℕ) (ts : Trees) (old new : Forest) : Type 0 where
  pub kids : Forest
  pub are : Represents kids ts
  pub whole : new ≡ put i kids old

-- and a tree of its own stands last
pub record LeavesChildren (i : ℕ) (ts : Trees) (old new : Forest) (h : ℕ) : Type 0 where
  pub kids : Forest
  pub are : Represents kids ts
  pub given : Gives (put i kids old) new h (λ t. ⊤)
