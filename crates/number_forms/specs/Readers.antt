-- What readers of Numbers tell.
use Rattle.std.specs.Prelude.{ℤ, pos, Bool, false}
use Rattle.calc_terms.specs.{Fractions.{is_zero_fraction}, Trees.{Tree, num}}

-- the rational 0
abbrev pub is_zero : Tree → Bool
is_zero (num q) = is_zero_fraction q
is_zero _ = false

-- the numerator of a rational
abbrev pub numerator : Tree → ℤ
numerator (num q) = q.num
numerator _ = pos 0
