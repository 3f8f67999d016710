-- What a line asks for.
use Rattle.std.specs.Prelude.{ℕ, ◌≡◌, ◌≤◌, ◌<◌, List, length, true, Option}
use Rattle.calc_commands.specs.{Commands.{Asked, IsCommandLine, is_command}, Parsing.{are_blanks}}
use Rattle.calc_terms.specs.Trees.{Tree}
use Rattle.calc_tokens.specs.{Limits.{line_limit}, Placed.{Placed}}
use Rattle.calc_session.specs.{Arguments.{IsMisread}, Reading.{IsText, ReadsAs}, Replies.{Reason, long, command}}

-- nothing; the value of a tree, which is to be stored under the name where there is one; or what a command asks for
pub data Request : Type 0 where
  nothing : Request
  value : Option (List ℕ) → Tree → Request
  commanded : Asked → Request

-- a line asks for this
pub data Asks (line : List ℕ) : Request → Type 0 where
  is_nothing : are_blanks line ≡ true → Asks line nothing
  is_text : {tokens : List Placed} {store : Option (List ℕ)} {t : Tree} → ReadsAs line tokens store t → Asks line (value store t)
  is_asked : {a : Asked} → IsCommandLine line a → Asks line (commanded a)

-- why a line asks for nothing that is known
pub data AsksInVain (line : List ℕ) : Reason → Type 0 where
  is_long : line_limit < length line → AsksInVain line long
  is_no_line : {reason : Reason} → IsText line → IsMisread 0 line reason → AsksInVain line reason
  is_no_command : length line ≤ line_limit → is_command line ≡ true → ((a : Asked) → IsCommandLine line a → ⊥) → AsksInVain line command
