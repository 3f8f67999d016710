-- What tables keep, and what filling gives.
use Rattle.std.specs.Prelude.{◌≡◌, ◌≤◌, ℕ, List, None}
use Rattle.calc_terms.specs.Trees.{Tree}
use Rattle.tree_handles.specs.{Expressions.{AllExpressions}, Forest.{Forest, bytes_in, empty, join}, Handed.{Gives}}
use Rattle.name_table.specs.{Filling.{LacksNames, NamedTree, filled, filling, fills, values}, Held.{AreApart, HasEntries, IsHeld, bytes_held, held_by}, Storing.{IsKeepable}, Tables.{Table, first_table, table_names}}

-- one tree alone is what the table of a first answer holds
abbrev pub BeginsHeld : Type 0
BeginsHeld = (i : ℕ) (f : Forest) → Gives empty f i (IsKeepable None (first_table i)) → IsHeld (first_table i) f

-- a forest that holds a table's trees has no other trees and no other counts
abbrev pub HoldsNoMore : Type 0
HoldsNoMore = (t : Table) (f : Forest) → IsHeld t f → held_by t f ≡ f

-- each entry keeps its tree where others are released
abbrev pub KeepsValues : Type 0
KeepsValues = (t : Table) (f : Forest) → values t (held_by t f) ≡ values t f

-- the tree that comes of filling is the filled one
abbrev pub FillsWithFilled : Type 0
FillsWithFilled = (free left : ℕ) (vs : List NamedTree) (t u : Tree) → filling free vs t ≡ fills left u → u ≡ filled vs t

-- no name of the table is left
abbrev pub FilledLacksNames : Type 0
FilledLacksNames = (t : Table) (f : Forest) (u : Tree) → IsHeld t f → LacksNames (table_names t) (filled (values t f) u)

-- exactly the trees of a table have its entries among them
abbrev pub HasHeldEntries : Type 0
HasHeldEntries = (t : Table) (f : Forest) → IsHeld t f → HasEntries t f

-- trees behind others change no entry
abbrev pub KeepsEntries : Type 0
KeepsEntries = (t : Table) (f g : Forest) → HasEntries t f → AllExpressions g → HasEntries t (join f g) × (values t (join f g) ≡ values t f)

-- the stored names hold different trees, and so their bytes are at most those of the forest
pub record HoldsApart (t : Table) (f : Forest) : Type 0 where
  pub apart : AreApart t.stored
  pub within : bytes_held t.stored f ≤ bytes_in f

abbrev pub HoldsEachApart : Type 0
HoldsEachApart = (t : Table) (f : Forest) → IsHeld t f → HoldsApart t f
