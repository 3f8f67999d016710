-- Lines of `:names` that are answered again.
use Rattle.std.specs.Prelude.{ℕ, ◌≡◌, List, [], ◌∷◌, map, ⊤}
use Rattle.calc_algebra.specs.Rewritings.{KeepsMeanings}
use Rattle.calc_language.specs.Reads.{Stores}
use Rattle.calc_session.specs.{Naming.{store_line}, Replies.{stored}, States.{State, trees}}
use Rattle.calc_terms.specs.Trees.{Tree}
use Rattle.name_table.specs.Filling.{NamedTree, value_in}
use Rattle.poincare_run.specs.Steps.{Turn}

-- what is stored under the name has every meaning of the tree
pub record IsStoredAgain (v : NamedTree) (stored : Tree) (name : List ℕ) : Type 0 where
  pub name_is : name ≡ v.name
  pub meanings : KeepsMeanings v.tree stored

-- the stored names with their trees, the oldest store first
abbrev pub stored_in : State → List NamedTree
stored_in s = map (value_in (trees s)) s.table.stored

-- the line of each reads as a store of its tree under its name
abbrev pub ReadAsStores : List NamedTree → Type 0
ReadAsStores [] = ⊤
ReadAsStores (v ∷ vs) = Stores (store_line v) v.tree v.name × ReadAsStores vs

-- each line was answered by a store
abbrev pub AreStores : List Turn → Type 0
AreStores [] = ⊤
AreStores (turn ∷ turns) = ((t : Tree) × (x : List ℕ) × (turn.reply ≡ stored t x)) × AreStores turns

-- the same names in the same order, each with a tree that has every meaning of the former one
abbrev pub AreStoredAgain : List NamedTree → List NamedTree → Type 0
AreStoredAgain [] [] = ⊤
AreStoredAgain (v ∷ vs) (w ∷ ws) = IsStoredAgain v w.tree w.name × AreStoredAgain vs ws
AreStoredAgain vs ws = ⊥
