-- A forest that holds exactly the trees of a table.
use Rattle.std.specs.Prelude.{ℕ, ◌+◌, ◌≡◌, ◌≤◌, ◌==◌, List, [], ◌∷◌, length, ⊤, true, Contains, if◌then◌else◌}
use Rattle.calc_language.specs.Texts.{AreWritable}
use Rattle.tree_handles.specs.{Expressions.{AllExpressions, plain, plains}, Forest.{Forest, bytes_in, empty, tree}, Handed.{AllOnce}, Roots.{has_root, root_tree}}
use Rattle.name_table.specs.{Filling.{LacksNames, NamedTree, values}, Tables.{Entry, Table, entries, holders, name_limit, table_names}}

-- each root with the count that is told of it, and no root of which 0 is told
abbrev pub counted_by : (ℕ → ℕ) → Forest → Forest
counted_by held empty = empty
counted_by held (tree l k r) = if held l.id == 0 then counted_by held r else tree (record l { count = held l.id }) k (counted_by held r)

-- how many entries of the table hold a tree
abbrev pub holders_in : Table → ℕ → ℕ
holders_in t i = holders i (entries t)

-- the trees that an entry of the table holds, in their order, each root counted as often as entries hold it
abbrev pub held_by : Table → Forest → Forest
held_by t f = counted_by (holders_in t) f

-- no name stands twice
abbrev pub AreDistinctNames : List (List ℕ) → Type 0
AreDistinctNames [] = ⊤
AreDistinctNames (x ∷ xs) = ¬ (Contains xs x) × AreDistinctNames xs

-- each entry's tree is a root
abbrev pub AreRoots : List Entry → Forest → Type 0
AreRoots [] f = ⊤
AreRoots (e ∷ es) f = (has_root e.tree f ≡ true) × AreRoots es f

-- no two of the entries hold the same tree
abbrev pub AreApart : List Entry → Type 0
AreApart [] = ⊤
AreApart (e ∷ es) = (holders e.tree es ≡ 0) × AreApart es

-- the bytes that the trees of entries take
abbrev pub bytes_held : List Entry → Forest → ℕ
bytes_held [] f = 0
bytes_held (e ∷ es) f = bytes_in (root_tree e.tree f) + bytes_held es f

-- each root has the count that is told of it, at least 1, and each node below has the count 1
abbrev pub AreCountedBy : (ℕ → ℕ) → Forest → Type 0
AreCountedBy held empty = ⊤
AreCountedBy held (tree l k r) = (1 ≤ l.count) × (l.count ≡ held l.id) × AllOnce k × AreCountedBy held r

-- no tree holds its own name, or one that stands before it
abbrev pub HoldLaterNames : List (List ℕ) → List NamedTree → Type 0
HoldLaterNames before [] = ⊤
HoldLaterNames before (v ∷ vs) = LacksNames (v.name ∷ before) v.tree × HoldLaterNames (v.name ∷ before) vs

-- The forest holds exactly the trees of the table, each root counted as often as entries hold it. No two names hold the same tree. They can be written, each holds only such names of the table as stand later in it, and the last answer holds none.
pub record IsHeld (t : Table) (f : Forest) : Type 0 where
  pub distinct : AreDistinctNames (table_names t)
  pub few : length t.stored ≤ name_limit
  pub roots : AreRoots (entries t) f
  pub apart : AreApart t.stored
  pub counts : AreCountedBy (holders_in t) f
  pub whole : AllExpressions f
  pub writable : AreWritable (plains f)
  pub later : HoldLaterNames [] (values t f)
  pub answer : LacksNames (table_names t) (plain (root_tree t.ans f))

-- Each entry's tree is a root among these trees of the language, and holds only such names of the table as stand later in it. Other trees may stand among them.
pub record HasEntries (t : Table) (f : Forest) : Type 0 where
  pub roots : AreRoots (entries t) f
  pub whole : AllExpressions f
  pub later : HoldLaterNames [] (values t f)
