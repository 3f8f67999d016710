-- Command lines.
use Rattle.std.specs.{Prelude.{ℕ, ◌≡◌, ◌<◌, ◌≤◌, ◌==◌, List, [], ◌∷◌, ◌++◌, length, Bool, true, false, not, if◌then◌else◌, Some, codes}, List.{list_all}}
use Rattle.calc_terms.specs.{Leaf.{name_of}, Name.{is_name}}
use Rattle.calc_language.specs.Tokens.{is_blank}
use Rattle.calc_commands.specs.declared.command.Command.{Command}
use Rattle.calc_commands.specs.declared.command.Command.TheVariants as command
use Rattle.calc_commands.specs.declared.words.Word.{Word}
use Rattle.calc_commands.specs.{Numbers.{value_of}, Words.{word_bytes}}

-- the first byte that is no blank is `:`
abbrev pub is_command : List ℕ → Bool
is_command [] = false
is_command (b ∷ bytes) = if is_blank b then is_command bytes else (b == 58)

-- what a command asks for: a name by its bytes, after how many checks a breaker trips, how many decimals, a text to calculate with, and a word to be explained
pub data Asked : Type 0 where
  pool dump draw layout latex : Asked
  forget : List ℕ → Asked
  after : ℕ → Asked
  diff roots : List ℕ → List ℕ → Asked
  solve expand : List ℕ → Asked
  help list_names : Asked
  explain : Word → Asked
  decimals : ℕ → List ℕ → Asked
  sign : List ℕ → Asked

abbrev pub asked_of : Command → Asked
asked_of command.Pool = pool
asked_of command.Dump = dump
asked_of (command.Forget name) = forget (name_of name)
asked_of (command.After checks) = after checks
asked_of command.Draw = draw
asked_of command.Layout = layout
asked_of command.Latex = latex
asked_of (command.Diff name text) = diff (name_of name) text.now
asked_of (command.Solve text) = solve text.now
asked_of (command.Roots name text) = roots (name_of name) text.now
asked_of (command.Expand text) = expand text.now
asked_of (command.Decimal places text) = decimals places text.now
asked_of (command.Sign text) = sign text.now
asked_of command.Help = help
asked_of (command.Explain w) = explain w
asked_of command.Names = list_names

-- so many decimals are told at most
abbrev pub most_places : ℕ
most_places = 38

-- a line is a colon and a word, with blanks around them, and an argument behind more blanks where there is one
pub record Has (line word argument : List ℕ) : Type 0 where
  pub before : List ℕ
  pub gap : List ℕ
  pub behind : List ℕ
  pub whole : line ≡ before ++ (58 ∷ (word ++ (gap ++ (argument ++ behind))))
  pub blank_before : list_all is_blank before ≡ true
  pub blank_gap : list_all is_blank gap ≡ true
  pub blank_behind : list_all is_blank behind ≡ true
  pub apart : 0 < length argument → 0 < length gap

abbrev pub begins_dark : List ℕ → Bool
begins_dark [] = false
begins_dark (b ∷ bytes) = not (is_blank b)

-- a text stands behind a gap: blanks, one at least, and then something that begins with none
pub record IsTextBehind (gap text : List ℕ) : Type 0 where
  pub blank : list_all is_blank gap ≡ true
  pub some : 0 < length gap
  pub dark : begins_dark text ≡ true

-- a line is a colon and a word, with blanks before the colon, and then a text up to the end
pub record HasText (line word text : List ℕ) : Type 0 where
  pub before : List ℕ
  pub gap : List ℕ
  pub whole : line ≡ before ++ (58 ∷ (word ++ (gap ++ text)))
  pub blank_before : list_all is_blank before ≡ true
  pub behind : IsTextBehind gap text

-- the command lines, a rule for each word
pub data IsCommandLine (line : List ℕ) : Asked → Type 0 where
  asks_pool : Has line (codes "pool") [] → IsCommandLine line pool
  asks_dump : Has line (codes "dump") [] → IsCommandLine line dump
  asks_draw : Has line (codes "draw") [] → IsCommandLine line draw
  asks_layout : Has line (codes "layout") [] → IsCommandLine line layout
  asks_latex : Has line (codes "latex") [] → IsCommandLine line latex
  asks_forget : {name : List ℕ} → Has line (codes "forget") name → is_name name ≡ true → IsCommandLine line (forget name)
  asks_after : {digits : List ℕ} {checks : ℕ} → Has line (codes "after") digits → value_of digits ≡ Some checks → IsCommandLine line (after checks)
  asks_diff : {name gap text : List ℕ} → HasText line (codes "diff") (name ++ (gap ++ text)) → is_name name ≡ true → IsTextBehind gap text → IsCommandLine line (diff name text)
  asks_solve : {text : List ℕ} → HasText line (codes "solve") text → IsCommandLine line (solve text)
  asks_roots : {name gap text : List ℕ} → HasText line (codes "roots") (name ++ (gap ++ text)) → is_name name ≡ true → IsTextBehind gap text → IsCommandLine line (roots name text)
  asks_expand : {text : List ℕ} → HasText line (codes "expand") text → IsCommandLine line (expand text)
  asks_help : Has line (codes "help") [] → IsCommandLine line help
  asks_explain : {w : Word} → Has line (codes "help") (word_bytes w) → IsCommandLine line (explain w)
  asks_names : Has line (codes "names") [] → IsCommandLine line list_names
  asks_decimals : (digits : List ℕ) {gap text : List ℕ} {places : ℕ} → HasText line (codes "decimal") (digits ++ (gap ++ text)) → value_of digits ≡ Some places → places ≤ most_places → IsTextBehind gap text → IsCommandLine line (decimals places text)
  asks_sign : {text : List ℕ} → HasText line (codes "sign") text → IsCommandLine line (sign text)
