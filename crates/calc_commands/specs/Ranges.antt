-- Equations by where they stand in a text.
use Rattle.std.specs.{Prelude.{ℕ, ◌≡◌, ◌≤◌, ◌<◌, ◌+◌, ◌-◌, List, [], ◌∷◌, ◌==◌, length, map, take, drop, nat_le, if◌then◌else◌, All}, List.{slice_split}}
use Rattle.calc_commands.specs.{declared.equations.EquationRange.{EquationRange}, declared.equations.SplitFault.{SplitFault}}
use Rattle.calc_commands.specs.declared.equations.SplitFault.TheVariants as split_fault
use Rattle.calc_commands.specs.Equations.{Pieces, Sides, Splits, all_placed}

-- the bytes from one place to before another
abbrev pub between : ℕ → ℕ → List ℕ → List ℕ
between from to text = take (to - from) (drop from text)

-- the sides that stand there
abbrev pub sides_at : List ℕ → EquationRange → Sides
sides_at text r = record { left = between r.begin r.sign text; right = between (r.sign + 1) r.end text }

-- where so many bytes stand before the text
abbrev pub pieces_at : ℕ → List ℕ → EquationRange → Pieces
pieces_at before text r = record {
  left = record { before = before + r.begin; text = between r.begin r.sign text };
  right = record { before = before + (r.sign + 1); text = between (r.sign + 1) r.end text };
}

-- there is such a place, and the sign stands before its end
pub record IsWithin (text : List ℕ) (r : EquationRange) : Type 0 where
  pub begin : r.begin ≤ r.sign
  pub sign : r.sign < r.end
  pub end_is : r.end ≤ length text
  pub equals : (rest : List ℕ) × (drop r.sign text ≡ 61 ∷ rest)

-- the pieces of a text with `;` between them, from a place on; behind its end there is none
abbrev pub pieces_from : ℕ → List ℕ → List (List ℕ)
pieces_from begin text = if nat_le begin (length text) then slice_split (λ b. b == 59) (drop begin text) else []

-- the text is split into equations, at most six, which stand at these places
pub record AreSplit (text : List ℕ) (rs : List EquationRange) : Type 0 where
  pub equations : List Sides
  pub splits : Splits text equations
  pub few : length equations ≤ 6
  pub placed_are : (before : ℕ) → map (pieces_at before text) rs ≡ all_placed before equations
  pub within : All (IsWithin text) rs

-- the text is split in no way, or into more than six
abbrev pub IsSplitFault : List ℕ → SplitFault → Type 0
IsSplitFault text split_fault.Unwritten = (es : List Sides) → Splits text es → ⊥
IsSplitFault text split_fault.TooMany = (es : List Sides) × Splits text es × (6 < length es)
