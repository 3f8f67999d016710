-- What a rewriting of a tree keeps.
use Rattle.std.specs.Prelude.{ℕ, ◌≡◌, true, List, Contains}
use Rattle.calc_algebra.specs.{Meanings.{Assignment, IsAssignment, Means}, Reduced.{is_reduced}, Surds.{Surd}}
use Rattle.calc_terms.specs.Trees.{Tree, names}

-- under every assignment, each meaning of the old tree is one of the new
pub record KeepsMeanings (old new : Tree) : Type 0 where
  pub means : (f : Assignment) → IsAssignment f → (v : Surd) → Means old f v → Means new f v

-- each name in the new tree is one in the old
pub record HasNoNewName (old new : Tree) : Type 0 where
  pub name : (x : List ℕ) → Contains (names new) x → Contains (names old) x

-- the new tree has no new name, and every meaning of the old
pub record Rewrites (old new : Tree) : Type 0 where
  pub no_new_name : HasNoNewName old new
  pub meanings : KeepsMeanings old new

-- the new tree is reduced, has no new name, and every meaning of the old
pub record Reduces (old new : Tree) : Type 0 where
  pub reduced : is_reduced new ≡ true
  pub no_new_name : HasNoNewName old new
  pub meanings : KeepsMeanings old new
