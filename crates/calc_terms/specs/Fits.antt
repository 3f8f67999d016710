-- Which operations fit into numbers of 128 bits, with their sign.
use Rattle.std.specs.Prelude.{ℕ, zero, suc, ◌/◌, ◌^◌, ℤ, pos, ◌+ℤ◌, ◌*ℤ◌, nat_abs, Bool, ◌&&◌, nat_lt}
use Rattle.calc_terms.specs.{Gcd.{gcd}, Fractions.{Fraction, plus, times, one_fraction}}

pub data Operation : Type 0 where
  add_op mul_op pow_op : Operation

-- a magnitude of at most 2^127 - 1
abbrev pub fits : ℤ → Bool
fits z = nat_lt (nat_abs z) (2 ^ 127)

-- numerator and denominator fit
abbrev pub fraction_fits : Fraction → Bool
fraction_fits q = fits q.num && fits (pos q.den)

-- with p/q and r/s, and g the greatest common divisor of q and s: p * (s/g), r * (q/g), their sum, and the denominator of the sum fit
abbrev pub sum_fits : Fraction → Fraction → Bool
sum_fits a b =
    let g = gcd a.den b.den in
    let x = a.num *ℤ pos (b.den / g) in
    let y = b.num *ℤ pos (a.den / g) in
    fits x && fits y && fits (x +ℤ y) && fits (pos (plus a b).den)

-- n factors a
abbrev pub fraction_power : Fraction → ℕ → Fraction
fraction_power a zero = one_fraction
fraction_power a (suc n) = times a (fraction_power a n)

-- what the operation gives; the second operand of a power is a whole number of at least 1
abbrev pub result_of : Operation → Fraction → Fraction → Fraction
result_of add_op a b = plus a b
result_of mul_op a b = times a b
result_of pow_op a b = fraction_power a (nat_abs b.num)

-- the operation on these operands fits
abbrev pub operation_fits : Operation → Fraction → Fraction → Bool
operation_fits add_op a b = sum_fits a b
operation_fits mul_op a b = fraction_fits (times a b)
operation_fits pow_op a b = fraction_fits (fraction_power a (nat_abs b.num))
