-- Texts within a line that are calculated with.
use Rattle.std.specs.Prelude.{ℕ, ◌≤◌, ◌+◌, ◌-◌, List, length, Option, Some}
use Rattle.calc_terms.specs.{Limits.{depth_limit}, Trees.{Tree, depth}}
use Rattle.calc_tokens.specs.{Placed.{Placed, bare}, Scanned.{AreTokensOf, IsFirstCharacter, IsFirstWide}}
use Rattle.calc_parser.specs.Lines.{IsLine, IsNoLine, IsLineOver}
use Rattle.calc_session.specs.Replies.{Reason, character_at, number_at, syntax, deep, command}

-- how many bytes of a line stand before the text at its end
abbrev pub bytes_before : List ℕ → List ℕ → ℕ
bytes_before line text = length line - length text

-- the text is these tokens, and they are a line of the grammar with this tree, to be stored under the name where there is one
pub record ReadsText (text : List ℕ) (tokens : List Placed) (store : Option (List ℕ)) (t : Tree) : Type 0 where
  pub cut : AreTokensOf tokens text
  pub line-is : IsLine (bare tokens) store t
  pub shallow : depth t ≤ depth_limit

-- why a text is not read, where so many bytes of the line stand before it: places are those in the line
pub data IsMisread (before : ℕ) (text : List ℕ) : Reason → Type 0 where
  meets_no_token : {at : ℕ} → IsFirstCharacter text at → IsMisread before text (character_at (before + at))
  meets_a_wide_number : {at : ℕ} → IsFirstWide text at → IsMisread before text (number_at (before + at))
  forms_no_line : {tokens : List Placed} → AreTokensOf tokens text → IsNoLine (bare tokens) → IsMisread before text syntax
  forms_a_deep_line : {tokens : List Placed} → AreTokensOf tokens text → IsLineOver depth_limit (bare tokens) → IsMisread before text deep

-- why a text is no expression: it is not read, or it is a store
pub data IsNoExpression (before : ℕ) (text : List ℕ) : Reason → Type 0 where
  is_misread : {reason : Reason} → IsMisread before text reason → IsNoExpression before text reason
  forms_a_store : {tokens : List Placed} {x : List ℕ} {t : Tree} → ReadsText text tokens (Some x) t → IsNoExpression before text command
