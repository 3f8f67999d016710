-- The columns that characters take.
use Rattle.std.specs.Prelude.{ℕ, ◌≡◌, List, [], ◌∷◌, false, Some}
use Rattle.unicode_width.specs.Width.{char_width}

-- each character takes one column, where ambiguous characters are narrow
abbrev pub TakeOneColumnEach : List ℕ → Type 0
TakeOneColumnEach [] = Unit {0}
TakeOneColumnEach (c ∷ cs) = (char_width false c ≡ Some 1) × TakeOneColumnEach cs
