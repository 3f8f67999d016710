-- A new tree as the last answer, with or without a name.
use Rattle.std.specs.{Prelude.{ℕ, ◌≡◌, ◌∷◌, List, true, false, ⊤, Option, Some, None, codes}, Str.{bytes_eq}}
use Rattle.calc_language.specs.Texts.{IsWritable}
use Rattle.calc_terms.specs.{Leaf.{name_of}, Trees.{Tree}, declared.name.Name.{Name}}
use Rattle.name_table.specs.{Filling.{LacksNames}, Tables.{Table, has_room_for, table_names}}

-- the bytes of a name, where there is one
abbrev pub name_in : Option Name → Option (List ℕ)
name_in None = None
name_in (Some name) = Some (name_of name)

-- the names that are used once a tree is stored
abbrev pub names_with : Option (List ℕ) → Table → List (List ℕ)
names_with None t = table_names t
names_with (Some x) t = x ∷ table_names t

-- a name that is not that of the last answer, and for which there is room
abbrev pub IsStorable : Option (List ℕ) → Table → Type 0
IsStorable None t = ⊤
IsStorable (Some x) t = (bytes_eq x (codes "ans") ≡ false) × (has_room_for x t ≡ true)

-- a tree that may be kept: it can be written, and holds no name that is used then
pub record IsKeepable (store : Option (List ℕ)) (t : Table) (face : Tree) : Type 0 where
  pub writable : IsWritable face
  pub clear : LacksNames (names_with store t) face
