-- The texts of solutions.
use Rattle.std.specs.Prelude.{ℕ, zero, suc, List, [], ◌∷◌, ◌++◌, map, zip, if◌then◌else◌, codes}
use Rattle.calc_language.specs.{Faces.{face}, Texts.{text}}
use Rattle.calc_terms.specs.{Fractions.{Fraction, is_one_fraction, is_zero_fraction, zero_fraction}, Trees.{Tree, num, symbol, add, mult, Trees, none, more}}
use Rattle.linear_solve.specs.Forms.{Form, free, bound, Answer, never, solved}
use Rattle.calc_session.specs.Replies.{operand_text}

-- ---- the reduced tree of a constant and multiples of names

-- a multiple of a name, and the name itself where it is taken once
abbrev pub multiple_of : Fraction → List ℕ → Tree
multiple_of q x = if is_one_fraction q then symbol x else mult (more (num q) (more (symbol x) none))

-- the multiples of the names, but for those by 0
abbrev pub multiples : List (List ℕ) → List Fraction → Trees
multiples [] qs = none
multiples (x ∷ xs) [] = none
multiples (x ∷ xs) (q ∷ qs) = if is_zero_fraction q then multiples xs qs else more (multiple_of q x) (multiples xs qs)

-- with the constant in front, unless it is 0
abbrev pub summands : List (List ℕ) → Fraction → List Fraction → Trees
summands xs q qs = if is_zero_fraction q then multiples xs qs else more (num q) (multiples xs qs)

-- 0, the only summand, or a sum
abbrev pub sum_of_trees : Trees → Tree
sum_of_trees none = num zero_fraction
sum_of_trees (more t none) = t
sum_of_trees (more t (more u ts)) = add (more t (more u ts))

abbrev pub form_tree : List (List ℕ) → Fraction → List Fraction → Tree
form_tree xs q qs = sum_of_trees (summands xs q qs)

-- ---- texts

-- with a comma between them
abbrev pub with_commas : List (List ℕ) → List ℕ
with_commas [] = []
with_commas (t ∷ []) = t
with_commas (t ∷ u ∷ ts) = t ++ (codes "," ++ with_commas (u ∷ ts))

-- what stands before the text at a place: a comma, but not before the first
abbrev pub comma_before : ℕ → List ℕ
comma_before zero = []
comma_before (suc at) = codes ","

-- what is told of a name: that it is free, or what it is
abbrev pub line_text : List (List ℕ) → List ℕ → Form → List ℕ
line_text xs x free = x ++ codes " free"
line_text xs x (bound q qs) = x ++ (codes "=" ++ text (face (form_tree xs q qs)))

abbrev pub line_texts : List (List ℕ) → List Form → List (List ℕ)
line_texts xs forms = map (λ (p : List ℕ × Form). line_text xs p.0 p.1) (zip xs forms)

-- `true` where there are no names
abbrev pub lines_text : List (List ℕ) → List Form → List ℕ
lines_text [] forms = codes "true"
lines_text (x ∷ xs) forms = with_commas (line_texts (x ∷ xs) forms)

abbrev pub multipliers_text : List Fraction → List ℕ
multipliers_text cs = codes "none " ++ with_commas (map operand_text cs)

abbrev pub solution_text : List (List ℕ) → Answer → List ℕ
solution_text xs (never cs) = multipliers_text cs
solution_text xs (solved forms) = lines_text xs forms
