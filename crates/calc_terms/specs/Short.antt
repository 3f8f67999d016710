-- Numbers that have a short form.
use Rattle.std.specs.Prelude.{ℤ, Bool, ◌&&◌, ◌==◌, ◌^◌, pos, neg_ℤ, int_le, int_lt}
use Rattle.calc_terms.specs.Fractions.{Fraction}

-- from -2^63 to 2^63 - 1
abbrev pub is_short_int : ℤ → Bool
is_short_int z = int_le (neg_ℤ (pos (2 ^ 63))) z && int_lt z (pos (2 ^ 63))

-- a whole number in that range
unfoldable pub is_short : Fraction → Bool
is_short q = (q.den == 1) && is_short_int q.num
