-- The lines of an input.
use Rattle.std.specs.{Prelude.{ℕ, List, [], ◌∷◌, ◌++◌, map, Bool, ◌==◌}, List.{slice_split}, Str.Lines.{strip_carriage_return}}

abbrev pub is_newline : ℕ → Bool
is_newline b = b == 10

-- what stands before, between and behind the newlines
abbrev pub parts : List ℕ → List (List ℕ)
parts bytes = slice_split is_newline bytes

abbrev pub all_but_last : List (List ℕ) → List (List ℕ)
all_but_last [] = []
all_but_last (x ∷ []) = []
all_but_last (x ∷ y ∷ more) = x ∷ all_but_last (y ∷ more)

abbrev pub last_of : List (List ℕ) → List ℕ
last_of [] = []
last_of (x ∷ []) = x
last_of (x ∷ y ∷ more) = last_of (y ∷ more)

-- the lines that end in a newline, each without the one carriage return at its end
unfoldable pub whole_lines : List ℕ → List (List ℕ)
whole_lines bytes = map strip_carriage_return (all_but_last (parts bytes))

-- what stands behind the last newline
unfoldable pub rest_of : List ℕ → List ℕ
rest_of bytes = last_of (parts bytes)

-- a rest that is not empty is a line too
abbrev pub line_of_rest : List ℕ → List (List ℕ)
line_of_rest [] = []
line_of_rest (b ∷ bytes) = strip_carriage_return (b ∷ bytes) ∷ []

-- all lines
abbrev pub lines_of : List ℕ → List (List ℕ)
lines_of bytes = whole_lines bytes ++ line_of_rest (rest_of bytes)
