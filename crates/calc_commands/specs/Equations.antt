-- How a text is split into equations.
use Rattle.std.specs.Prelude.{ℕ, ◌≡◌, ◌<◌, ◌+◌, List, [], ◌∷◌, ◌++◌, length, take, drop, false, All, Contains}
use Rattle.calc_commands.specs.Parsing.{are_blanks}

-- the two sides of an equation, as texts
pub record Sides : Type 0 where
  pub left : List ℕ
  pub right : List ℕ

-- there is something in the text, and neither `;` nor `=`
pub record IsSideText (text : List ℕ) : Type 0 where
  pub some : are_blanks text ≡ false
  pub no_semicolon : ¬ (Contains text 59)
  pub no_equals : ¬ (Contains text 61)

pub record AreSides (e : Sides) : Type 0 where
  pub left : IsSideText e.left
  pub right : IsSideText e.right

-- an equation as it is written
abbrev pub written : Sides → List ℕ
written e = e.left ++ 61 ∷ e.right

-- what stands before a place, and behind the byte there
abbrev pub cut_at : ℕ → List ℕ → Sides
cut_at sign piece = record { left = take sign piece; right = drop (sign + 1) piece }

-- equations with `;` between them
abbrev pub written_all : List Sides → List ℕ
written_all [] = []
written_all (e ∷ []) = written e
written_all (e ∷ f ∷ es) = written e ++ 59 ∷ written_all (f ∷ es)

-- the text is these equations, one at least
pub record Splits (text : List ℕ) (es : List Sides) : Type 0 where
  pub some : 0 < length es
  pub whole : text ≡ written_all es
  pub sides : All AreSides es

-- ---- where the sides stand

-- a text, and how many bytes stand before it
pub record Piece : Type 0 where
  pub before : ℕ
  pub text : List ℕ

pub record Pieces : Type 0 where
  pub left : Piece
  pub right : Piece

-- the sides of an equation that is written behind so many bytes
abbrev pub placed : ℕ → Sides → Pieces
placed before e = record {
  left = record { before = before; text = e.left };
  right = record { before = before + length e.left + 1; text = e.right };
}

-- those of equations with `;` between them
abbrev pub all_placed : ℕ → List Sides → List Pieces
all_placed before [] = []
all_placed before (e ∷ es) = placed before e ∷ all_placed (before + length (written e) + 1) es
