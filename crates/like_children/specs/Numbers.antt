-- The Numbers among trees, and the others.
use Rattle.std.specs.Prelude.{ℕ, ◌≡◌, ◌<◌, ◌≤◌, true, false, if◌then◌else◌}
use Rattle.calc_algebra.specs.Numbers.{is_number}
use Rattle.calc_terms.specs.Trees.{Trees, none, more, count}
use Rattle.tree_handles.specs.Expressions.{nth}

-- the trees that are Numbers
abbrev pub numbers_in : Trees → Trees
numbers_in none = none
numbers_in (more t ts) = if is_number t then more t (numbers_in ts) else numbers_in ts

-- the trees that are none
abbrev pub others_in : Trees → Trees
others_in none = none
others_in (more t ts) = if is_number t then others_in ts else more t (others_in ts)

-- no tree from one place to before another is a Number
abbrev pub NoNumberBetween : ℕ → ℕ → Trees → Type 0
NoNumberBetween from to ts = (k : ℕ) → from ≤ k → k < to → is_number (nth k ts) ≡ false

-- the first Number from a place on stands there
pub record IsNextNumber (from n : ℕ) (ts : Trees) : Type 0 where
  pub behind : from ≤ n
  pub within : n < count ts
  pub number : is_number (nth n ts) ≡ true
  pub before : NoNumberBetween from n ts
