-- Stored trees in place of their names.
use Rattle.std.specs.Prelude.{ℕ, List, [], ◌∷◌, map, nat_lt, if◌then◌else◌, Ok, Err, Contains}
use Rattle.calc_terms.specs.Trees.{Tree, symbol, names, size, root_size, depth}
use Rattle.node_pool.specs.{declared.full.Full.{Full}, State.{State}}
use Rattle.tree_handles.specs.{Expressions.{plain}, Forest.{Forest}, Roots.{root_tree}, Standing.{KeepsRefusals, LacksBytes, Refuses}}
use Rattle.name_table.specs.declared.fault.FillFault.{FillFault}
use Rattle.name_table.specs.declared.fault.FillFault.TheVariants as fault
use Rattle.tree_walks.specs.Replacing.{occurrences, replaced, replacing}
use Rattle.name_table.specs.Tables.{Entry, Table, entries}
pub use Rattle.calc_terms.specs.Limits.{depth_limit}

-- a name and the plain tree that is stored under it
pub record NamedTree : Type 0 where
  pub name : List ℕ
  pub tree : Tree

abbrev pub value_in : Forest → Entry → NamedTree
value_in f e = record { name = e.name; tree = plain (root_tree e.tree f) }

-- what the last answer and the stored names stand for, in the order of the table
abbrev pub values : Table → Forest → List NamedTree
values t f = map (value_in f) (entries t)

-- none of the names is in the tree
abbrev pub LacksNames : List (List ℕ) → Tree → Type 0
LacksNames xs t = (x : List ℕ) → Contains xs x → ¬ (Contains (names t) x)

-- the names of one entry after another are replaced by their trees
abbrev pub filled : List NamedTree → Tree → Tree
filled [] t = t
filled (v ∷ vs) t = filled vs (replaced v.name v.tree t)

-- a copy finds no room, or a tree is too deep, or so many bytes are left and this is the tree
pub data Filling : Type 0 where
  lacks : Full → Filling
  too_deep : Filling
  fills : ℕ → Tree → Filling

-- One name is replaced in the free bytes: each occurrence takes a copy of the tree, before the leaf of the name is released. Then the depth is asked.
abbrev pub filling_one : ℕ → NamedTree → Tree → Filling
filling_one free v t = elim (replacing free (occurrences v.name t) (size v.tree) (root_size (symbol v.name))) [ Err full ↦ lacks full | Ok left ↦ if nat_lt depth_limit (depth (replaced v.name v.tree t)) then too_deep else fills left (replaced v.name v.tree t) ]

-- one after another, up to the first that is refused
abbrev pub filling : ℕ → List NamedTree → Tree → Filling
filling free [] t = fills free t
filling free (v ∷ vs) t = elim (filling_one free v t) [ lacks full ↦ lacks full | too_deep ↦ too_deep | fills left u ↦ filling left vs u ]

-- a refusal to fill
abbrev pub refused_filling : FillFault → Filling
refused_filling (fault.Full full) = lacks full
refused_filling fault.Deep = too_deep

-- where bytes are short that refusal was counted and still holds, and where a tree is too deep none was counted
abbrev pub FaultsFilling : State → State → FillFault → Type 0
FaultsFilling old new (fault.Full full) = Refuses old new full × LacksBytes new full
FaultsFilling old new fault.Deep = KeepsRefusals old new
