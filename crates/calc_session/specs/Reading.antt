-- How a line is read by the grammar.
use Rattle.std.specs.{Prelude.{ℕ, ◌≡◌, ◌≤◌, List, length, true, false, Option, Some, codes}, Str.{bytes_eq}}
use Rattle.calc_commands.specs.{Commands.{is_command}, Parsing.{are_blanks}}
use Rattle.calc_terms.specs.Trees.{Tree}
use Rattle.calc_tokens.specs.{Limits.{line_limit}, Placed.{Placed}}
use Rattle.name_table.specs.{Storing.{IsStorable}, Tables.{Table, has_room_for}}
use Rattle.calc_session.specs.{Arguments.{ReadsText}, Replies.{Reason, reserved, names_full}}

-- a line that is read by the grammar
pub record IsText (line : List ℕ) : Type 0 where
  pub short : length line ≤ line_limit
  pub some : are_blanks line ≡ false
  pub no_command : is_command line ≡ false

-- it reads as a tree, to be stored under the name where there is one
pub record ReadsAs (line : List ℕ) (tokens : List Placed) (store : Option (List ℕ)) (t : Tree) : Type 0 where
  pub text : IsText line
  pub reads : ReadsText line tokens store t

-- the same, and the name is one under which it can be stored
pub record ReadsTree (table : Table) (line : List ℕ) (tokens : List Placed) (store : Option (List ℕ)) (t : Tree) : Type 0 where
  pub reads : ReadsAs line tokens store t
  pub storable : IsStorable store table

-- why nothing can be stored under a name
pub data IsUnstorable (table : Table) : Option (List ℕ) → Reason → Type 0 where
  is_ans : {x : List ℕ} → bytes_eq x (codes "ans") ≡ true → IsUnstorable table (Some x) reserved
  finds_names_full : {x : List ℕ} → bytes_eq x (codes "ans") ≡ false → has_room_for x table ≡ false → IsUnstorable table (Some x) names_full
