-- How a command line is cut.
use Rattle.std.specs.{Prelude.{ℕ, ◌≡◌, ◌==◌, List, [], ◌∷◌, length, Bool, ◌&&◌, ◌||◌, not, nat_le, nat_lt, if◌then◌else◌, Option, Some, None}, List.{list_all}, Option.{option_map, option_and_then}}
use Rattle.calc_terms.specs.Name.{is_name}
use Rattle.calc_language.specs.Tokens.{is_blank, leading_run}
use Rattle.calc_commands.specs.declared.parts.Class.{Class}
use Rattle.calc_commands.specs.declared.parts.Class.TheVariants as class
use Rattle.calc_commands.specs.declared.words.Word.{Word}
use Rattle.calc_commands.specs.declared.words.Word.TheVariants as word
use Rattle.calc_commands.specs.{Commands.{Asked, pool, dump, draw, layout, latex, forget, after, diff, solve, roots, expand, decimals, sign, most_places, help, explain, list_names}, Numbers.{value_of}, Words.{word_bytes, word_of}}

-- a byte is of a class
abbrev pub is_in : Class → ℕ → Bool
is_in class.Blank b = is_blank b
is_in class.SmallLetter b = nat_le 97 b && nat_le b 122
is_in class.Dark b = not (is_blank b)

abbrev pub are_blanks : List ℕ → Bool
are_blanks bytes = list_all is_blank bytes

abbrev pub behind_colon : List ℕ → Option (List ℕ)
behind_colon [] = None
behind_colon (b ∷ bytes) = if b == 58 then Some bytes else None

-- the argument in what stands behind a word
abbrev pub argument_of : List ℕ → Option (List ℕ)
argument_of rest =
    let gap = leading_run is_blank rest in
    let text = leading_run (is_in class.Dark) gap.1 in
    if ((length text.0 == 0) || nat_lt 0 (length gap.0)) && are_blanks text.1 then Some text.0 else None

-- the word, and what stands behind it
abbrev pub word_and_rest : List ℕ → Option (List ℕ × List ℕ)
word_and_rest line = option_map (leading_run (is_in class.SmallLetter)) (behind_colon ((leading_run is_blank line).1))

-- the text behind blanks
abbrev pub text_behind : List ℕ → Option (List ℕ)
text_behind rest = let run = leading_run is_blank rest in if (length run.0 == 0) || (length run.1 == 0) then None else Some run.1

-- a name, and the text behind it
abbrev pub name_and_text : List ℕ → Option (List ℕ × List ℕ)
name_and_text text = let run = leading_run (is_in class.Dark) text in if is_name run.0 then option_map (λ behind. (run.0, behind)) (text_behind run.1) else None

-- blanks, a name, and the text behind it
abbrev pub name_and_text_behind : List ℕ → Option (List ℕ × List ℕ)
name_and_text_behind rest = option_and_then name_and_text (text_behind rest)

-- how many places are told, and the text behind that number
abbrev pub places_and_text : List ℕ → Option (ℕ × List ℕ)
places_and_text text =
    let run = leading_run (is_in class.Dark) text in
    option_and_then (λ places. if nat_le places most_places then option_map (λ behind. (places, behind)) (text_behind run.1) else None) (value_of run.0)

-- what a word alone asks for
abbrev pub asked_alone : Word → Option Asked
asked_alone word.Help = Some help
asked_alone word.Pool = Some pool
asked_alone word.Dump = Some dump
asked_alone word.Names = Some list_names
asked_alone word.Draw = Some draw
asked_alone word.Layout = Some layout
asked_alone word.Latex = Some latex
asked_alone w = None

-- what it asks for with an argument
abbrev pub asked_with : Word → List ℕ → Option Asked
asked_with word.Help argument = option_map explain (word_of argument)
asked_with word.Forget argument = if is_name argument then Some (forget argument) else None
asked_with word.After argument = option_map after (value_of argument)
asked_with w argument = None

abbrev pub asked_for : Word → List ℕ → Option Asked
asked_for w argument = if length argument == 0 then asked_alone w else asked_with w argument

abbrev pub asked_to_round : List ℕ → Option Asked
asked_to_round rest = option_map (λ found. decimals found.0 found.1) (option_and_then places_and_text (text_behind rest))

-- what a word and what stands behind it ask for
abbrev pub asked_by : Word → List ℕ → Option Asked
asked_by word.Diff rest = option_map (λ found. diff found.0 found.1) (name_and_text_behind rest)
asked_by word.Solve rest = option_map solve (text_behind rest)
asked_by word.Roots rest = option_map (λ found. roots found.0 found.1) (name_and_text_behind rest)
asked_by word.Expand rest = option_map expand (text_behind rest)
asked_by word.Decimal rest = asked_to_round rest
asked_by word.Sign rest = option_map sign (text_behind rest)
asked_by w rest = option_and_then (asked_for w) (argument_of rest)

abbrev pub asked_in : List ℕ → List ℕ → Option Asked
asked_in bytes rest = option_and_then (λ w. asked_by w rest) (word_of bytes)

-- a line is a colon and a word of the table, with blanks before the colon, and no small letter stands behind the word
pub record BeginsWithWord (line : List ℕ) : Type 0 where
  pub word : Word
  pub rest : List ℕ
  pub parts : word_and_rest line ≡ Some (word_bytes word, rest)
