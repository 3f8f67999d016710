-- Tokens of the grammar with their places.
use Rattle.std.specs.Prelude.{ℕ, List, map}
use Rattle.calc_language.specs.Tokens.{Token}

-- a token, and the place of its first byte, counted from 1
pub record Placed : Type 0 where
  pub token : Token
  pub at : ℕ

-- the tokens without their places
abbrev pub bare : List Placed → List Token
bare = map (λ p. p.token)
