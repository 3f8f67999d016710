-- The coefficient of a term, the part behind it, and the two put together.
use Rattle.std.specs.Prelude.{ℕ, ◌-◌, ◌≡◌, true, false, if◌then◌else◌}
use Rattle.calc_terms.specs.{Fractions.{Fraction, zero_fraction, is_zero_fraction, is_one_fraction}, Trees.{Tree, num, add, mult, Trees, none, more, append, count, is_undef}}
use Rattle.calc_measures.specs.Loads.{has_coefficient}
use Rattle.calc_algebra.specs.Reduced.{split_product, num_one, is_reduced}
use Rattle.coefficients.specs.Multiples.{rational_times_sum}

-- a term's leading Number, 1 where none is written
abbrev pub coefficient_of : Tree → Tree
coefficient_of (mult ts) = (split_product ts).coefficient
coefficient_of t = num_one

-- how many leading factors of a product make its coefficient
abbrev pub coefficient_length : Trees → ℕ
coefficient_length ts = count ts - count (split_product ts).factors

-- the factors of a product, and any other tree by itself
abbrev pub factors_of : Tree → Trees
factors_of (mult ts) = ts
factors_of t = more t none

-- a reduced tree other than Undef with no Number in front of its factors: it is no Number, and has no coefficient
pub record IsMonic (t : Tree) : Type 0 where
  pub reduced : is_reduced t ≡ true
  pub defined : is_undef t ≡ false
  pub no_coefficient : has_coefficient (factors_of t) ≡ false

-- a coefficient before the factors of a part; one of a single class is spliced
abbrev pub spliced : Tree → Tree → Tree
spliced c p = mult (append (factors_of c) (factors_of p))

-- a rational, neither 0 nor 1, before a part: it goes into each term of a sum
abbrev pub rational_before : Fraction → Tree → Tree
rational_before q (add ts) = rational_times_sum q ts
rational_before q p = spliced (num q) p

-- a coefficient times a part as it is written: 0 is the answer, and 1 is not written
abbrev pub with_coefficient : Tree → Tree → Tree
with_coefficient (num q) p = if is_zero_fraction q then num zero_fraction else (if is_one_fraction q then p else rational_before q p)
with_coefficient c p = spliced c p
