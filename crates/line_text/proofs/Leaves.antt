-- What is written of a node without children.
use Rattle.line_text.proofs.Shared.{◌≡◌, ℕ, ◌^◌, ◌<◌, List, nat_abs, sym, ap, subst, arith, Fraction, lowest, Holds, lowest_parts, Ratio, IsRat, decimal, ℤ, FitsSigned, ints, w128, cast_signed}
use Rattle.line_text.proofs.{Shared.{cast_unsigned}, Decimals.{decimal_is}}
use Rattle.std.specs.Fmt as fmt

signed_fits : (z : ℤ) → nat_abs z < 2 ^ 127 → FitsSigned w128 z
signed_fits z h = omega (arith, ints)

pub magnitude_is : (z v : ℤ) (n : ℕ) → nat_abs v < 2 ^ 127 → z ≡ v → n ≡ nat_abs (cast_signed w128 (cast_unsigned w128 z)) → n ≡ nat_abs v
magnitude_is z v n h e m = grind (arith, signed_fits)

-- the digits that std writes of a magnitude
pub digits_are : (bytes : List ℕ) (z v : ℤ) (n : ℕ) → nat_abs v < 2 ^ 127 → z ≡ v → n ≡ nat_abs (cast_signed w128 (cast_unsigned w128 z)) → bytes ≡ fmt.decimal n → bytes ≡ decimal (nat_abs v)
digits_are bytes z v n h e m t = grind (arith, signed_fits, decimal_is)

-- a ratio in lowest terms keeps its numerator
pub numerator_is : (r : Ratio) → IsRat r → (lowest r.num r.den).num ≡ r.num
numerator_is r h =
    let f : Fraction = record { num = r.num; den = r.den; lowest = subst Holds (sym h.lowest) tt } in
    ap (λ (x : Fraction). x.num) (sym (lowest_parts f))
