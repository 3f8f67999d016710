-- The table that the slots of the code are.
use Rattle.std.specs.Prelude.{ℕ, List, [], ◌∷◌, map, Option, Some, None, IsSome, ⊤}
use Rattle.calc_terms.specs.Leaf.{name_of}
use Rattle.tree_handles.specs.{Forest.{Forest}, Inside.{released_in}}
use Rattle.name_table.specs.{declared.table.Slot.{Slot}, declared.table.NameTable.TheInside.{Inside}, Tables.{Entry, Table}}

-- the root of a slot's tree, 0 where there is none
abbrev pub root_in : Option ℕ → ℕ
root_in None = 0
root_in (Some i) = i

abbrev pub entry_of : Slot → Entry
entry_of s = record { name = name_of s.name; tree = root_in s.tree }

abbrev pub table_of : Inside → Table
table_of t = record { ans = t.ans; stored = map entry_of t.stored.items }

-- each slot has a tree
abbrev pub AreUsed : List Slot → Type 0
AreUsed [] = ⊤
AreUsed (s ∷ ss) = IsSome s.tree × AreUsed ss

abbrev pub IsWhole : Inside → Type 0
IsWhole t = AreUsed t.stored.items

-- the tree of an entry loses a unit of its count, where there was an entry
abbrev pub released_under : Option ℕ → Forest → Forest
released_under None f = f
released_under (Some i) f = released_in i f
