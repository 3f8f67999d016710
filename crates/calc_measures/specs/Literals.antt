-- Exponents that are written as a whole number, or as half of an odd one.
use Rattle.std.specs.Prelude.{zero, suc, ℤ, pos, neg_ℤ, Bool, true, false, ◌&&◌, ◌==◌, not, if◌then◌else◌, Option, Some, None}
use Rattle.calc_terms.specs.{Integers.{int_is_even}, Fractions.{Fraction}, Trees.{Tree, num, neg, div}}

-- the whole number that the fraction is
abbrev pub whole_value : Fraction → Option ℤ
whole_value q = if q.den == 1 then Some q.num else None

abbrev pub opposite : Option ℤ → Option ℤ
opposite (Some n) = Some (neg_ℤ n)
opposite None = None

-- a whole Num, or Neg of one
abbrev pub whole_literal : Tree → Option ℤ
whole_literal (num q) = whole_value q
whole_literal (neg (num q)) = opposite (whole_value q)
whole_literal _ = None

-- n, where the fraction is n/2 for an odd n
abbrev pub half_value : Fraction → Option ℤ
half_value q = if q.den == 2 then Some q.num else None

abbrev pub int_is_two : ℤ → Bool
int_is_two (pos (suc (suc zero))) = true
int_is_two _ = false

-- n, where the quotient is that of an odd whole number n by 2
abbrev pub half_quotient : Fraction → Fraction → Option ℤ
half_quotient n d = if n.den == 1 && not (int_is_even n.num) && int_is_two d.num && d.den == 1 then Some n.num else None

abbrev pub unsigned_half : Tree → Option ℤ
unsigned_half (num q) = half_value q
unsigned_half (div (num n) (num d)) = half_quotient n d
unsigned_half _ = None

-- n/2 as a Num or as a Div for an odd n, or Neg of one of these
abbrev pub half_literal : Tree → Option ℤ
half_literal (neg e) = opposite (unsigned_half e)
half_literal e = unsigned_half e

-- the number, or else the other
abbrev pub or_literal : Option ℤ → Option ℤ → Option ℤ
or_literal (Some n) other = Some n
or_literal None other = other

abbrev pub is_some : Option ℤ → Bool
is_some (Some n) = true
is_some None = false

abbrev pub is_whole_literal : Tree → Bool
is_whole_literal e = is_some (whole_literal e)

abbrev pub is_half_literal : Tree → Bool
is_half_literal e = is_some (half_literal e)
