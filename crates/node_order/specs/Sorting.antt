-- Children that are put in order.
use Rattle.std.specs.{Prelude.{ℕ, ◌≡◌, List, [], ◌∷◌, take, drop, IsPermutation, IsSortedByKey}, List.Sorted.{IsStableByKey}}
use Rattle.calc_algebra.specs.TreeOrder.{tree_cmp}
use Rattle.calc_terms.specs.Trees.{Tree, Trees, none, more}
use Rattle.tree_handles.specs.{Expressions.{plains, AllExpressions}, Forest.{Forest, kids}, Handed.{AllOnce}, Roots.{root_tree, put}}

-- the trees as a list
abbrev pub list_of : Trees → List Tree
list_of none = []
list_of (more t ts) = t ∷ list_of ts

-- the first n trees stay, and the others change places so that their keys do not fall
pub record IsSorting (n : ℕ) (key : Tree → Tree) (old new : Trees) : Type 0 where
  pub front : take n (list_of new) ≡ take n (list_of old)
  pub moved : IsPermutation (drop n (list_of old)) (drop n (list_of new))
  pub rising : IsSortedByKey key tree_cmp (drop n (list_of new))

-- those behind the first n that have one key keep their order
abbrev pub KeepsTies : ℕ → (Tree → Tree) → Trees → Trees → Type 0
KeepsTies n key old new = IsStableByKey key tree_cmp (drop n (list_of old)) (drop n (list_of new))

-- a root's children are put in order, where the root stands
pub record SortsChildren (i n : ℕ) (key : Tree → Tree) (old new : Forest) : Type 0 where
  pub children : Forest
  pub whole : new ≡ put i children old
  pub once : AllOnce children
  pub expressions : AllExpressions children
  pub sorted : IsSorting n key (plains (kids (root_tree i old))) (plains children)
  pub stable : KeepsTies n key (plains (kids (root_tree i old))) (plains children)
