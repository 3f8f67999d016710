-- The words of commands, and what is told of each.
use Rattle.std.specs.{Prelude.{ℕ, zero, suc, ◌≡◌, ◌≤◌, ◌+◌, List, [], ◌∷◌, ◌++◌, length, drop, replicate, map, true, ◌&&◌, nat_le, if◌then◌else◌, Option, Some, None, codes}, List.{list_all}, Str.{bytes_eq}}
use Rattle.calc_commands.specs.declared.words.Word.{Word}
use Rattle.calc_commands.specs.declared.words.Word.TheVariants as word

-- all words, in the order in which they are told
abbrev pub all_words : List Word
all_words = word.Help ∷ word.Pool ∷ word.Dump ∷ word.Names ∷ word.Forget ∷ word.After ∷ word.Layout ∷ word.Latex ∷ word.Draw ∷ word.Diff ∷ word.Solve ∷ word.Roots ∷ word.Expand ∷ word.Decimal ∷ word.Sign ∷ []

-- a word as it is typed
abbrev pub word_bytes : Word → List ℕ
word_bytes word.Help = codes "help"
word_bytes word.Pool = codes "pool"
word_bytes word.Dump = codes "dump"
word_bytes word.Names = codes "names"
word_bytes word.Forget = codes "forget"
word_bytes word.After = codes "after"
word_bytes word.Layout = codes "layout"
word_bytes word.Latex = codes "latex"
word_bytes word.Draw = codes "draw"
word_bytes word.Diff = codes "diff"
word_bytes word.Solve = codes "solve"
word_bytes word.Roots = codes "roots"
word_bytes word.Expand = codes "expand"
word_bytes word.Decimal = codes "decimal"
word_bytes word.Sign = codes "sign"

-- the first of the words that is typed so
abbrev pub word_among : List Word → List ℕ → Option Word
word_among [] bytes = None
word_among (w ∷ ws) bytes = if bytes_eq (word_bytes w) bytes then Some w else word_among ws bytes

-- the word that these bytes are
abbrev pub word_of : List ℕ → Option Word
word_of bytes = word_among all_words bytes

-- ---- what is told of a word

-- what stands behind it in a command
abbrev pub form_of : Word → List ℕ
form_of word.Help = codes " [WORD]"
form_of word.Forget = codes " X"
form_of word.After = codes " K"
form_of word.Diff = codes " X LINE"
form_of word.Solve = codes " EQUATIONS"
form_of word.Roots = codes " X EQUATION"
form_of word.Expand = codes " LINE"
form_of word.Decimal = codes " N LINE"
form_of word.Sign = codes " LINE"
form_of w = []

-- what the command does
abbrev pub summary_of : Word → List ℕ
summary_of word.Help = codes "these lines, or that of a word with an example"
summary_of word.Pool = codes "how full the pool is"
summary_of word.Dump = codes "the bytes of the pool"
summary_of word.Names = codes "what is stored, in lines that store it again"
summary_of word.Forget = codes "what is stored under the name X is forgotten"
summary_of word.After = codes "a line is interrupted after K nodes"
summary_of word.Layout = codes "the layout of the last answer in one line"
summary_of word.Latex = codes "the last answer as LaTeX"
summary_of word.Draw = codes "the picture of the last answer"
summary_of word.Diff = codes "the derivative of the line with respect to the name X"
summary_of word.Solve = codes "the values of the names in linear equations"
summary_of word.Roots = codes "all roots of a polynomial equation in the name X"
summary_of word.Expand = codes "the line as a sum of multiples of products of names"
summary_of word.Decimal = codes "the nearest decimal of the line with N places, at most 38"
summary_of word.Sign = codes "whether the line is positive, negative or zero"

-- lines that use the command, with `;` between them
abbrev pub example_of : Word → List ℕ
example_of word.Help = codes ":help diff"
example_of word.Pool = codes ":pool"
example_of word.Dump = codes ":dump"
example_of word.Names = codes "5->x ; :names"
example_of word.Forget = codes "5->x ; :forget x"
example_of word.After = codes ":after 3 ; 1+2+3"
example_of word.Layout = codes "x/2 ; :layout"
example_of word.Latex = codes "x/2 ; :latex"
example_of word.Draw = codes "x/2 ; :draw"
example_of word.Diff = codes ":diff x x^3/3"
example_of word.Solve = codes ":solve x+y=3;x-y=1"
example_of word.Roots = codes ":roots x x^2=x+1"
example_of word.Expand = codes ":expand (x+y)^2"
example_of word.Decimal = codes ":decimal 4 sqrt(2)+sqrt(3)"
example_of word.Sign = codes ":sign sqrt(2)-3/2"

-- ---- the lines of help

-- with a newline between them
abbrev pub with_newlines : List (List ℕ) → List ℕ
with_newlines [] = []
with_newlines (t ∷ []) = t
with_newlines (t ∷ u ∷ ts) = t ++ 10 ∷ with_newlines (u ∷ ts)

-- what stands before the line at a place: a newline, but not before the first
abbrev pub newline_before : ℕ → List ℕ
newline_before zero = []
newline_before (suc at) = 10 ∷ []

-- blanks from the end of a word and its form to the column where all summaries begin
abbrev pub padding_of : Word → List ℕ
padding_of w = drop (length (word_bytes w) + length (form_of w)) (replicate 18 32)

-- the line of a word
abbrev pub help_line : Word → List ℕ
help_line w = codes ":" ++ (word_bytes w ++ (form_of w ++ (padding_of w ++ summary_of w)))

-- the lines of all words
abbrev pub help_report : List ℕ
help_report = with_newlines (map help_line all_words)

-- the line of one, with an example
abbrev pub word_report : Word → List ℕ
word_report w = help_line w ++ (10 ∷ (codes "for example " ++ example_of w))

-- at most 78 characters of ASCII, none of which is a newline
pub record IsRow (line : List ℕ) : Type 0 where
  pub short : length line ≤ 78
  pub printable : list_all (λ b. nat_le 32 b && nat_le b 126) line ≡ true
