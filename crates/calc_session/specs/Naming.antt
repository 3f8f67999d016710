-- What is stored, told in lines that store it again.
use Rattle.std.specs.Prelude.{ℕ, ◌≡◌, ◌≤◌, Contains, Some, slice_get, List, [], ◌∷◌, ◌++◌, map, codes}
use Rattle.calc_commands.specs.Words.{with_newlines}
use Rattle.calc_language.specs.{Texts.{text}, Tokens.{arrow_sign}}
use Rattle.name_table.specs.{Filling.{NamedTree, value_in}, Tables.{Entry, Table}}
use Rattle.calc_terms.specs.Trees.{names}
use Rattle.tree_handles.specs.{Expressions.{plain}, Forest.{Forest}, Roots.{root_tree}}
use Rattle.calc_session.specs.States.{State, trees}

-- the line that stores a tree under a name
abbrev pub store_line : NamedTree → List ℕ
store_line v = text v.tree ++ (arrow_sign ++ v.name)

-- those of entries, whose trees stand in a forest
abbrev pub store_lines : Forest → List Entry → List (List ℕ)
store_lines f es = map (λ e. store_line (value_in f e)) es

-- lines, or that there are none
abbrev pub names_told : List (List ℕ) → List ℕ
names_told [] = codes "no names"
names_told (t ∷ ts) = with_newlines (t ∷ ts)

-- what is stored, the oldest store first
abbrev pub names_report : State → List ℕ
names_report s = names_told (store_lines (trees s) s.table.stored)

-- what is stored holds neither the name of the last answer nor one that is stored before it, nor its own
pub record StoresLaterNames (t : Table) (f : Forest) : Type 0 where
  pub no_ans : (n : ℕ) (e : Entry) → slice_get t.stored n ≡ Some e → ¬ (Contains (names (plain (root_tree e.tree f))) (codes "ans"))
  pub none_before : (m n : ℕ) (d e : Entry) → m ≤ n → slice_get t.stored m ≡ Some d → slice_get t.stored n ≡ Some e → ¬ (Contains (names (plain (root_tree e.tree f))) d.name)
