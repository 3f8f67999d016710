-- Neighbours among trees that have one key.
use Rattle.std.specs.{Prelude.{ℕ, suc, ◌≡◌, ◌<◌, ◌≤◌, Bool, true, false, ◌&&◌}, Ordering.{is_eq}}
use Rattle.calc_algebra.specs.TreeOrder.{tree_cmp}
use Rattle.calc_terms.specs.Trees.{Tree, Trees, count}
use Rattle.tree_handles.specs.Expressions.{nth}

-- both trees have a key, and it is the same
abbrev pub are_alike : (Tree → Bool) → (Tree → Tree) → Tree → Tree → Bool
are_alike has_key key_of t u = has_key t && has_key u && is_eq (tree_cmp (key_of t) (key_of u))

-- the tree at a place, counted from 0, and the next one are alike
pub record IsPairAt (alike : Tree → Tree → Bool) (n : ℕ) (ts : Trees) : Type 0 where
  pub within : suc n < count ts
  pub pair : alike (nth n ts) (nth (suc n) ts) ≡ true

-- no two neighbours from one place to before another are
abbrev pub NoPairBetween : (Tree → Tree → Bool) → ℕ → ℕ → Trees → Type 0
NoPairBetween alike from to ts = (k : ℕ) → from ≤ k → suc k < to → alike (nth k ts) (nth (suc k) ts) ≡ false

-- the first such pair from a place on stands there
pub record IsNextPair (alike : Tree → Tree → Bool) (from n : ℕ) (ts : Trees) : Type 0 where
  pub behind : from ≤ n
  pub before : NoPairBetween alike from (suc n) ts
  pub pair : IsPairAt alike n ts
