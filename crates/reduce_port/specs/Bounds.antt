-- Numbers that a reducer may tell of a tree.
use Rattle.std.specs.Prelude.{ℕ, ◌<◌, ◌≤◌, Option, Some, None, ⊤}
use Rattle.calc_terms.specs.Trees.{Tree}

-- it is untold, or the tree's exceeds this number
abbrev pub MayExceed : Option (Tree → ℕ) → Tree → ℕ → Type 0
MayExceed None t n = ⊤
MayExceed (Some told) t n = n < told t

-- where it is told, the tree's is at least this number
abbrev pub Covers : Option (Tree → ℕ) → Tree → ℕ → Type 0
Covers None t n = ⊤
Covers (Some told) t n = n ≤ told t
