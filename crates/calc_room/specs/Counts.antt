-- How many nodes of a reduced tree count for its bytes.
use Rattle.std.specs.Prelude.{ℕ, suc, ◌+◌, max, [], ◌∷◌, nat_le, if◌then◌else◌}
use Rattle.calc_algebra.specs.{Numbers.{is_number}, Reduced.{is_whole_num}, Surds.{Surd}}
use Rattle.calc_terms.specs.Trees.{Tree, add, mult, power, root, Trees, none, more, is_num}

-- Symbols, sums, roots, powers whose exponent is no whole number, and Numbers that stand alone: as the whole tree, a
-- base, an exponent or an argument. A Number that is a term or a factor is free, and so is a product, which counts 1 at least.
abbrev mutual
  pub counted : Tree → ℕ
  counted (add ts) = suc (counted_among ts)
  counted (mult ts) = max 1 (counted_among ts)
  counted (power b e) = if is_whole_num e then counted b else suc (counted b + counted e)
  counted (root a) = if is_num a then 1 else suc (counted a)
  counted _ = 1

  -- in the children that are no Numbers
  pub counted_among : Trees → ℕ
  counted_among none = 0
  counted_among (more t ts) = (if is_number t then 0 else counted t) + counted_among ts

-- how many terms have a radicand of 2 or more
abbrev pub root_terms : Surd → ℕ
root_terms [] = 0
root_terms (t ∷ v) = (if nat_le 2 t.radicand then 1 else 0) + root_terms v
