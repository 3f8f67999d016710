-- A table of names: the last answer, and the trees that are stored under names.
use Rattle.std.specs.{Prelude.{ℕ, suc, ◌==◌, ◌||◌, List, [], ◌∷◌, ◌++◌, length, map, codes, nat_lt, Bool, true, false, Option, Some, None, if◌then◌else◌}, Str.{bytes_eq}}

-- a name, and the identifier of the root of its tree
pub record Entry : Type 0 where
  pub name : List ℕ
  pub tree : ℕ

-- the identifier of the last answer, and the stored names, the oldest store first
pub record Table : Type 0 where
  pub ans : ℕ
  pub stored : List Entry

-- the last answer under its name, and then the stored names
abbrev pub entries : Table → List Entry
entries t = record { name = codes "ans"; tree = t.ans } ∷ t.stored

abbrev pub table_names : Table → List (List ℕ)
table_names t = map (λ e. e.name) (entries t)

-- the table of a first answer
abbrev pub first_table : ℕ → Table
first_table i = record { ans = i; stored = [] }

-- how many names may be stored
abbrev pub name_limit : ℕ
name_limit = 64

abbrev pub has_entry : List ℕ → List Entry → Bool
has_entry x [] = false
has_entry x (e ∷ es) = if bytes_eq e.name x then true else has_entry x es

-- a name is stored; the name of the last answer is none of these
abbrev pub is_stored : List ℕ → Table → Bool
is_stored x t = has_entry x t.stored

-- the tree that is stored under a name
abbrev pub tree_under : List ℕ → List Entry → Option ℕ
tree_under x [] = None
tree_under x (e ∷ es) = if bytes_eq e.name x then Some e.tree else tree_under x es

-- a name is stored already, or there is room for one more
abbrev pub has_room_for : List ℕ → Table → Bool
has_room_for x t = is_stored x t || nat_lt (length t.stored) name_limit

-- the entries without that of a name
abbrev pub without_entry : List ℕ → List Entry → List Entry
without_entry x [] = []
without_entry x (e ∷ es) = if bytes_eq e.name x then es else e ∷ without_entry x es

-- a tree becomes the last answer; where there is a name, its former entry is removed, and it stands last with this tree
abbrev pub with_answer : Option (List ℕ) → ℕ → Table → Table
with_answer None i t = record t { ans = i }
with_answer (Some x) i t = record { ans = i; stored = without_entry x t.stored ++ record { name = x; tree = i } ∷ [] }

-- a name is forgotten
abbrev pub without_name : List ℕ → Table → Table
without_name x t = record t { stored = without_entry x t.stored }

-- how many entries hold a tree
abbrev pub holders : ℕ → List Entry → ℕ
holders i [] = 0
holders i (e ∷ es) = if e.tree == i then suc (holders i es) else holders i es
