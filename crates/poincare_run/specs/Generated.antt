-- The lines of a generated session.
use Rattle.std.specs.{Prelude.{ℕ, suc, zero, ◌+◌, ◌*◌, ◌/◌, ◌%◌, ◌==◌, List, [], ◌∷◌, ◌++◌, if◌then◌else◌, codes}, Fmt.{decimal}}
use Rattle.calc_language.specs.Tokens.{arrow_sign, root_sign, times_sign}

abbrev pub next_seed : ℕ → ℕ
next_seed s = (75 * s + 74) % 65537

-- the seed of line k
unfoldable pub seed : ℕ → ℕ → ℕ
seed number zero = number % 65537
seed number (suc k) = next_seed (seed number k)

-- the two numbers of a line
abbrev pub first_number : ℕ → ℕ
first_number s = s % 97 + 1

abbrev pub second_number : ℕ → ℕ
second_number s = s / 97 % 89 + 1

-- the line of each kind, in which a and b stand for the two numbers
unfoldable pub pattern : ℕ → List ℕ
pattern kind =
    if kind == 1 then codes "a/b+b/a"
    else if kind == 2 then root_sign ++ (codes "(a)+" ++ (root_sign ++ codes "(b)"))
    else if kind == 3 then codes "1/(" ++ (root_sign ++ (codes "(a)+" ++ (root_sign ++ codes "(b))")))
    else if kind == 4 then codes "(a+" ++ (root_sign ++ codes "(b))^3")
    else if kind == 5 then codes "a" ++ (times_sign ++ (codes "x+b" ++ (times_sign ++ (codes "x-" ++ (root_sign ++ (codes "(a)" ++ (times_sign ++ codes "x")))))))
    else if kind == 6 then codes "(x+a)^2/(x+b)"
    else if kind == 7 then codes "a/b" ++ (arrow_sign ++ codes "y")
    else codes "y" ++ (times_sign ++ (root_sign ++ codes "(b)+x"))

-- a byte of a pattern: the letters a and b are the decimal digits of the two numbers
abbrev pub digits_for : ℕ → ℕ → ℕ → List ℕ
digits_for a b byte = if byte == 97 then decimal a else if byte == 98 then decimal b else byte ∷ []

abbrev pub with_digits : ℕ → ℕ → List ℕ → List ℕ
with_digits a b [] = []
with_digits a b (byte ∷ bytes) = digits_for a b byte ++ with_digits a b bytes

-- line k
abbrev pub line_of : ℕ → ℕ → List ℕ
line_of number k = with_digits (first_number (seed number k)) (second_number (seed number k)) (pattern (k % 8))

-- the first lines, each with a newline
unfoldable pub first_lines : ℕ → ℕ → List ℕ
first_lines number zero = []
first_lines number (suc k) = first_lines number k ++ (line_of number (suc k) ++ 10 ∷ [])

-- the session of a number has 2,000 lines
abbrev pub session_text : ℕ → List ℕ
session_text number = first_lines number 2000
