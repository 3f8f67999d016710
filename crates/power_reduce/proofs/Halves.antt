-- Half of an even exponent.
use Rattle.power_reduce.proofs.Shared.{◌≡◌, ◌<◌, ◌≤◌, ◌^◌, Bool, neg_ℤ, ℤ, pos, Some, refl, arith, to_z, of_z, true, false, nat_abs, int_div, int_le, int_lt, w128, Rat, whole_fraction, is_number}
use Rattle.power_reduce.proofs.Shared.{ratio_of, value_of, whole, Tree, num, power, is_root, size, whole_numerator, whole_denominator, and_from, and_parts, half, is_even_whole, rewritten, nth}
use Rattle.power_reduce.proofs.Shared.{children_of, size_by_form, is_short_int}
use Rattle.calc_terms.specs.Short.{is_short}
use Rattle.calc_terms.specs.declared.kind.Kind.TheVariants as kind

pub halved : (z : ℤ) (r : Rat) → nat_abs z < 2 ^ 127 → ratio_of r ≡ whole (to_z w128 (of_z w128 (int_div (to_z w128 (of_z w128 z)) (to_z w128 (of_z w128 (pos 2)))))) → value_of r ≡ whole_fraction (half z)
halved z r h e = grind arith

pub half_rewritten : (b e : Tree) (z : ℤ) (r : Rat) → is_root b ≡ true → is_number b ≡ false → is_even_whole (whole_fraction z) ≡ true → e ≡ num (whole_fraction z) → value_of r ≡ whole_fraction (half z)
    → rewritten b e ≡ Some (power (nth 0 (children_of b)) (num (value_of r)))
half_rewritten b e z r t n h k v = grind (arith, whole_numerator)

-- ---- its bytes

short_number : (z : ℤ) → is_short (whole_fraction z) ≡ is_short_int z
unfolding is_short
short_number z = rw (whole_numerator z, whole_denominator z) refl

low_half : (z : ℤ) → int_le (neg_ℤ (pos (2 ^ 63))) z ≡ true → int_le (neg_ℤ (pos (2 ^ 63))) (half z) ≡ true
low_half z h = grind arith

high_half : (z : ℤ) → int_lt z (pos (2 ^ 63)) ≡ true → int_lt (half z) (pos (2 ^ 63)) ≡ true
high_half z h = grind arith

short_half : (z : ℤ) → is_short_int z ≡ true → is_short_int (half z) ≡ true
short_half z h = let a = and_parts (int_le (neg_ℤ (pos (2 ^ 63))) z) (int_lt z (pos (2 ^ 63))) h in and_from _ _ (low_half z a.0) (high_half z a.1)

smaller_form : (b c : Bool) → (b ≡ true → c ≡ true) → size_by_form kind.Num c ≤ size_by_form kind.Num b
smaller_form b c h = grind arith

-- the half of a number takes no more bytes
pub half_room : (z : ℤ) (r : Rat) → value_of r ≡ whole_fraction (half z) → size (num (value_of r)) ≤ size (num (whole_fraction z))
half_room z r e = grind (arith, smaller_form, short_number, short_half)
