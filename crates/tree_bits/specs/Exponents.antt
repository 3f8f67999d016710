-- How often an exponent counts its base.
use Rattle.std.specs.Prelude.{ℕ, suc, ◌+◌, ◌*◌, ℤ, pos, negsuc, Bool, true, false, ◌&&◌, ◌==◌}
use Rattle.calc_terms.specs.Trees.{Tree, num, symbol, add, mult, Trees, none, more}

-- the base itself, and its inverse
pub record Counts : Type 0 where
  pub up : ℕ
  pub down : ℕ

abbrev pub counts : ℕ → ℕ → Counts
counts u v = record { up = u; down = v }

-- a multiple; one below 0 turns them
abbrev pub multiple : ℤ → Counts → Counts
multiple (pos n) c = counts (n * c.up) (n * c.down)
multiple (negsuc n) c = counts (suc n * c.down) (suc n * c.up)

abbrev pub added : Counts → Counts → Counts
added c d = counts (c.up + d.up) (c.down + d.down)

-- a whole number, a symbol, a whole multiple of what is counted, or a sum of such
abbrev mutual
  pub is_counted : Tree → Bool
  is_counted (num q) = q.den == 1
  is_counted (symbol x) = true
  is_counted (mult (more (num q) (more t none))) = (q.den == 1) && is_counted t
  is_counted (add ts) = are_counted ts
  is_counted _ = false

  pub are_counted : Trees → Bool
  are_counted none = true
  are_counted (more t ts) = is_counted t && are_counted ts

-- the sum of the whole numbers above 0, and of the magnitudes of those below it, where a symbol counts 1
abbrev mutual
  pub counts_of : Tree → Counts
  counts_of (num q) = multiple q.num (counts 1 0)
  counts_of (symbol x) = counts 1 0
  counts_of (mult (more (num q) (more t none))) = multiple q.num (counts_of t)
  counts_of (add ts) = counts_of_all ts
  counts_of _ = counts 0 0

  pub counts_of_all : Trees → Counts
  counts_of_all none = counts 0 0
  counts_of_all (more t ts) = added (counts_of t) (counts_of_all ts)
