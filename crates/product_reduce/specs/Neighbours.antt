-- Neighbours among the factors that have identical bases.
use Rattle.std.specs.Prelude.{ℕ, Bool, ◌&&◌, not}
use Rattle.calc_algebra.specs.{Numbers.{is_number}, Reduced.{base_of}}
use Rattle.calc_terms.specs.Trees.{Tree, Trees, none, more, is_mult}
use Rattle.like_children.specs.Neighbours as alike
use Rattle.like_children.specs.Neighbours.{are_alike}
use Rattle.number_forms.specs.Sums.{removed}
use Rattle.product_reduce.specs.Joining.{joint}
use Rattle.tree_handles.specs.Expressions.{nth, inserted}

-- neither a Number nor a product
abbrev pub is_single : Tree → Bool
is_single t = not (is_number t) && not (is_mult t)

-- two such factors have identical bases
abbrev pub is_pair : Tree → Tree → Bool
is_pair t u = are_alike is_single base_of t u

-- the factor at a place, counted from 0, and the next one are such
abbrev pub IsPairAt : ℕ → Trees → Type 0
IsPairAt n ts = alike.IsPairAt is_pair n ts

-- no two neighbours from one place to before another are
abbrev pub NoPairBetween : ℕ → ℕ → Trees → Type 0
NoPairBetween from to ts = alike.NoPairBetween is_pair from to ts

-- the first such pair from a place on stands there
abbrev pub IsNextPair : ℕ → ℕ → Trees → Type 0
IsNextPair from n ts = alike.IsNextPair is_pair from n ts

-- the factors at two places are joined, where the first one stood
abbrev pub joined_pair : ℕ → ℕ → Trees → Trees
joined_pair i j ts = inserted i (more (joint (nth i ts) (nth j ts)) none) (removed i (removed j ts))
