-- Nest, Weight and Load of a reduced tree, or of a node with reduced children.
use Rattle.std.specs.Prelude.{ℕ, suc, ◌+◌, max, Bool, false, ◌||◌, if◌then◌else◌}
use Rattle.calc_terms.specs.Trees.{Tree, add, mult, power, root, neg, sub, div, Trees, none, more, is_undef}
use Rattle.calc_algebra.specs.{Numbers.{is_number}, Reduced.{base_of}}

-- how deep powers stand in exponents that are no Numbers
abbrev mutual
  pub nest : Tree → ℕ
  nest (add ts) = nest_of ts
  nest (mult ts) = nest_of ts
  nest (power b e) = if is_number e then nest b else max (nest b) (suc (nest e))
  nest (root a) = nest a
  nest (neg a) = nest a
  nest (sub a b) = max (nest a) (nest b)
  nest (div a b) = max (nest a) (nest b)
  nest _ = 0

  -- the largest
  pub nest_of : Trees → ℕ
  nest_of none = 0
  nest_of (more t ts) = max (nest t) (nest_of ts)

-- a Number stands in front
abbrev pub has_coefficient : Trees → Bool
has_coefficient (more t ts) = is_number t
has_coefficient none = false

abbrev mutual
  -- a Number, a Sym, Undef and an Add weigh 2
  pub weight : Tree → ℕ
  weight (root a) = if is_number (root a) then 2 else suc (weight a)
  weight (power b e) = suc (weight b)
  weight (mult ts) = if is_number (mult ts) then 2 else 1 + (if has_coefficient ts then 2 else 0) + weight_of_factors ts
  weight _ = 2

  -- those of the factors that are no Numbers
  pub weight_of_factors : Trees → ℕ
  weight_of_factors none = 0
  weight_of_factors (more t ts) = (if is_number t then 0 else weight t) + weight_of_factors ts

abbrev mutual
  -- that of a factor, and the sum for a product in a product
  pub load_of_factor : Tree → ℕ
  load_of_factor (mult ts) = load_of_factors ts
  load_of_factor t = if is_number t then 0 else weight (base_of t)

  -- the weights of the bases of the factors that are no Numbers
  pub load_of_factors : Trees → ℕ
  load_of_factors none = 0
  load_of_factors (more t ts) = load_of_factor t + load_of_factors ts

-- 0 for a Number and for Undef, and else the weight of the bases
abbrev pub load : Tree → ℕ
load t = if is_number t || is_undef t then 0 else load_of_factor t
