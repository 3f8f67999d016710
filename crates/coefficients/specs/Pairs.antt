-- Answers of two trees, and a tree that is taken out of a product.
use Rattle.std.specs.Prelude.{ℕ, ◌≡◌}
use Rattle.calc_terms.specs.Trees.{Tree, Trees}
use Rattle.tree_handles.specs.{Forest.{Forest}, Handed.{Represents, Gives}, Roots.{put}}

-- two new trees stand last, the first before the second, behind the others as they were; and what each is
pub record GivesTwo (others new : Forest) (first second : ℕ) (First Second : Tree → Type 0) : Type 0 where
  pub between : Forest
  pub first-given : Gives others between first First
  pub second-given : Gives between new second Second

-- a tree stands last, and the root's other children, where it stood, are these
pub record LeavesRest (root : ℕ) (old new : Forest) (taken : ℕ) (t : Tree) (rest : Trees) : Type 0 where
  pub kids : Forest
  pub rest-are : Represents kids rest
  pub given : Gives (put root kids old) new taken (λ u. u ≡ t)
