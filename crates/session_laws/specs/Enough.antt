-- Lines for which there is enough.
use Rattle.std.specs.Prelude.{◌≡◌, ℕ, ◌+◌, ◌*◌, ◌≤◌, ⊤, All, List, Option, false}
use Rattle.calc_terms.specs.{declared.kind.Kind.TheVariants.{Num, Sym}, Kind.{size_by_form}, Trees.{Tree, nodes, size, root_size, symbol}}
use Rattle.calc_tokens.specs.Placed.{Placed}
use Rattle.name_table.specs.Filling.{filled, values}
use Rattle.calc_session.specs.{Reading.{ReadsTree}, Replies.{Reply, shown, stored, undefined}, States.{State, free_bytes, trees}}

-- the bytes of the leaf of a name
abbrev pub leaf_bytes : ℕ
leaf_bytes = size_by_form Sym false

-- the bytes of the largest node, a rational that is not short
abbrev pub largest_node_bytes : ℕ
largest_node_bytes = size_by_form Num false

-- In a state the line reads as a tree, to be stored under the name where there is one, that is this one once the stored trees are in the places of their names. Nothing is said of how much is free.
pub record ReadsFilled (old : State) (line : List ℕ) (store : Option (List ℕ)) (t : Tree) : Type 0 where
  pub tokens : List Placed
  pub tree : Tree
  pub reads : ReadsTree old.table line tokens store tree
  pub filled_is : t ≡ filled (values old.table (trees old)) tree

-- no stored tree is smaller than the leaf of its name
abbrev pub HoldsNoSmallTree : State → Type 0
HoldsNoSmallTree s = All (λ v. root_size (symbol v.name) ≤ size v.tree) (values s.table (trees s))

-- The bytes are free in which a tree is built and its names are replaced. They are those of what it becomes and of one leaf, which still stands while the copy that replaces it is placed; where a stored tree may be smaller than a leaf, those of as many nodes of the largest size suffice.
pub data HasBytesFor (old : State) (t : Tree) : Type 0 where
  of_the_tree : HoldsNoSmallTree old → size t + leaf_bytes ≤ free_bytes old → HasBytesFor old t
  of_its_nodes : largest_node_bytes * nodes t + leaf_bytes ≤ free_bytes old → HasBytesFor old t

-- a tree is shown or stored, or the line is undefined
abbrev pub IsAnswered : Reply → Type 0
IsAnswered (shown t) = ⊤
IsAnswered (stored t x) = ⊤
IsAnswered undefined = ⊤
IsAnswered reply = ⊥
