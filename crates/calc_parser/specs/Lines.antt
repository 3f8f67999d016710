-- Lines of the grammar, and how deep their trees are.
use Rattle.std.specs.Prelude.{ℕ, ◌≤◌, ◌<◌, List, Option, Some, None}
use Rattle.calc_language.specs.{Tokens.{Token}, Grammar.{IsSum, IsStore}}
use Rattle.calc_terms.specs.Trees.{Tree, depth}

-- the tokens are a line with this tree, to be stored under the name where there is one
abbrev pub IsLine : List Token → Option (List ℕ) → Tree → Type 0
IsLine ts None t = IsSum ts t
IsLine ts (Some x) t = IsStore ts t x

-- the tokens are a line with this tree
abbrev pub IsTreeOf : List Token → Tree → Type 0
IsTreeOf ts t = (store : Option (List ℕ)) × IsLine ts store t

-- the tokens are no line of the grammar
abbrev pub IsNoLine : List Token → Type 0
IsNoLine ts = (store : Option (List ℕ)) (t : Tree) → IsLine ts store t → ⊥

-- the tokens are a line, to be stored under the name where there is one, and its tree is at most this deep
pub record IsLineWithin (limit : ℕ) (ts : List Token) (store : Option (List ℕ)) : Type 0 where
  pub tree : Tree
  pub line : IsLine ts store tree
  pub within : depth tree ≤ limit

-- the tokens are a line, and its tree is deeper than this
pub record IsLineOver (limit : ℕ) (ts : List Token) : Type 0 where
  pub store : Option (List ℕ)
  pub tree : Tree
  pub line : IsLine ts store tree
  pub over : limit < depth tree
