-- One step on a power of reduced trees.
use Rattle.std.specs.Prelude.{suc, ◌/◌, ℤ, pos, negsuc, neg_ℤ, Bool, false, ◌&&◌, ◌||◌, ◌==◌, not, if◌then◌else◌, Option, Some, None}
use Rattle.calc_terms.specs.{Fractions.{Fraction, whole_fraction, is_zero_fraction, is_one_fraction}, Integers.{int_is_even}, Trees.{Tree, num, mult, power, root, is_undef, Trees, none, more}}
use Rattle.calc_algebra.specs.{Numbers.{is_number}, Reduced.{is_half_num, is_opaque_exponent, is_num_one, is_whole_num, split_product}}
use Rattle.number_forms.specs.Readers.{numerator}

-- the rational 0 or 1
abbrev pub is_zero_or_one : Tree → Bool
is_zero_or_one (num q) = is_zero_fraction q || is_one_fraction q
is_zero_or_one _ = false

-- an exponent that goes into a power or a product: a whole number other than 0 and 1
abbrev pub goes_inside : Tree → Bool
goes_inside e = is_whole_num e && not (is_zero_or_one e)

-- an even whole number other than 0
abbrev pub is_even_whole : Fraction → Bool
is_even_whole q = (q.den == 1) && int_is_even q.num && not (is_zero_fraction q)

-- half of an even number
abbrev pub half : ℤ → ℤ
half (pos n) = pos (n / 2)
half (negsuc n) = neg_ℤ (pos (suc n / 2))

-- each tree to the power e
abbrev pub raised : Trees → Tree → Trees
raised none e = none
raised (more t ts) e = more (power t e) (raised ts e)

-- a product's coefficient as one Number, if it is not 1, and the factors behind it
abbrev pub parts_of : Trees → Trees
parts_of ts = let s = split_product ts in if is_num_one s.coefficient then s.factors else more s.coefficient s.factors

-- what one rewriting makes of b to a whole power e: an even power of a root is a power of its argument, one of a
-- transparent power multiplies the exponents, and one of a product is the product of the powers
abbrev pub rewritten_whole : Tree → Tree → Option Tree
rewritten_whole (root a) (num q) = if is_even_whole q && not (is_number (root a)) then Some (power a (num (whole_fraction (half q.num)))) else None
rewritten_whole (power c f) e = if goes_inside e && not (is_opaque_exponent f) then Some (power c (mult (more f (more e none)))) else None
rewritten_whole (mult ts) e = if goes_inside e && not (is_number (mult ts)) then Some (mult (raised (parts_of ts) e)) else None
rewritten_whole b e = None

-- b to half of an odd whole number, which is the root of b to that number
abbrev pub power_of_root : Tree → Tree → Tree
power_of_root b e = power (root b) (num (whole_fraction (numerator e)))

-- what one rewriting makes of b to the power e
abbrev pub rewritten : Tree → Tree → Option Tree
rewritten b e = if is_half_num e then (if is_undef b then None else Some (power_of_root b e)) else rewritten_whole b e
