-- The texts of roots.
use Rattle.std.specs.Prelude.{ℕ, zero, suc, ◌≤◌, ⊤, List, [], ◌∷◌, ◌++◌, map, if◌then◌else◌, codes}
use Rattle.calc_language.specs.{Faces.{face}, Texts.{text}}
use Rattle.calc_terms.specs.{Fractions.{Fraction, is_zero_fraction, negative}, Rat.{value_of}, Trees.{Tree, num, Trees, none, more, append}}
use Rattle.calc_algebra.specs.Surds.{term}
use Rattle.equation_roots.specs.Factorings.{Rest, pair}
use Rattle.number_forms.specs.Shapes.{term_tree}
use Rattle.surd_terms.specs.Terms.{term_of}
use Rattle.calc_session.specs.{SolutionTexts.{sum_of_trees}, declared.root_text.Root.{Root}, declared.root_text.Root.TheVariants.{Rational, Irrational}}

-- ---- the reduced trees of roots

-- the constant, unless it is 0
abbrev pub constant : Fraction → Trees
constant m = if is_zero_fraction m then none else more (num m) none

-- m + s√t, where s is not 0 and t is at least 2
abbrev pub surd_tree : Fraction → Fraction → ℕ → Tree
surd_tree m s t = sum_of_trees (append (constant m) (more (term_tree (term s t)) none))

-- of all that are told: the rationals as they rise, and then m - s√t and m + s√t
abbrev pub root_trees : List Fraction → Rest → List Tree
root_trees qs (pair b c m s t) = map num qs ++ (surd_tree m (negative s) t ∷ surd_tree m s t ∷ [])
root_trees qs rest = map num qs

-- of one root
abbrev pub tree_in : Root → Tree
tree_in (Rational q) = num (value_of q)
tree_in (Irrational q t) = surd_tree (value_of q) (term_of t).coefficient (term_of t).radicand

-- the radicand is at least 2, where there is one
abbrev pub IsIrrational : Root → Type 0
IsIrrational (Rational q) = ⊤
IsIrrational (Irrational q t) = 2 ≤ (term_of t).radicand

-- so many bytes suffice for the tree of a root and its face
abbrev pub root_room : ℕ
root_room = 720

-- ---- texts

-- with a semicolon between them
abbrev pub with_semicolons : List (List ℕ) → List ℕ
with_semicolons [] = []
with_semicolons (t ∷ []) = t
with_semicolons (t ∷ u ∷ ts) = t ++ (codes ";" ++ with_semicolons (u ∷ ts))

-- what stands before the text at a place: a semicolon, but not before the first
abbrev pub semicolon_before : ℕ → List ℕ
semicolon_before zero = []
semicolon_before (suc at) = codes ";"

-- the name, and the root that it is
abbrev pub root_text : List ℕ → Tree → List ℕ
root_text x t = x ++ (codes "=" ++ text (face t))

-- the same at its place
abbrev pub next_text : List ℕ → ℕ → Tree → List ℕ
next_text x at t = semicolon_before at ++ root_text x t

-- `none` where there are no roots
abbrev pub roots_text : List ℕ → List Tree → List ℕ
roots_text x [] = codes "none"
roots_text x (t ∷ ts) = with_semicolons (map (root_text x) (t ∷ ts))
