-- The name behind an arrow at the end of a line.
use Rattle.std.specs.Prelude.{ℕ, ◌≡◌, List, [], ◌∷◌, ◌++◌, Option, Some, None}
use Rattle.calc_language.specs.Tokens.{Token, name, arrow_mark}

-- the name that the last two tokens store to
abbrev pub stored : Token → Token → Option (List ℕ)
stored arrow_mark (name x) = Some x
stored t u = None

-- what stands before an arrow and a name, or all where these do not end the tokens
abbrev pub IsSplit : List Token → List Token → Option (List ℕ) → Type 0
IsSplit ts us (Some x) = ts ≡ us ++ arrow_mark ∷ name x ∷ []
IsSplit ts us None = (ts ≡ us) × ((vs : List Token) (x : List ℕ) → ts ≡ vs ++ arrow_mark ∷ name x ∷ [] → ⊥)
