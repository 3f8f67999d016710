-- What a text reads as, with no limit of length or depth.
use Rattle.std.specs.Prelude.{ℕ, List}
use Rattle.calc_terms.specs.Trees.{Tree}
use Rattle.calc_language.specs.{Tokens.{Token, Scans}, Grammar.{IsSum, IsStore}}

-- the text is a sum with this tree
abbrev pub Reads : List ℕ → Tree → Type 0
Reads text t = (ts : List Token) × Scans text ts × IsSum ts t

-- the text is a sum with this tree, an arrow and this name
abbrev pub Stores : List ℕ → Tree → List ℕ → Type 0
Stores text t x = (ts : List Token) × Scans text ts × IsStore ts t x
