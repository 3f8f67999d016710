-- A power by half of an odd whole number, as the program writes it: a power of the root of its base.
use Rattle.power_reduce.proofs.Shared.{arith, ◌≡◌, Some, true, false, ℤ, is_half_num, Rat, whole_fraction, ratio_of, value_of, whole, Tree, num, power, root, is_undef, numerator, rewritten}

-- x is the root over y, which is b, and n the whole number that the program wrote
pub rooted_as : (b e t x y n : Tree) (r : Rat) (z : ℤ) → is_half_num e ≡ true → is_undef b ≡ false → t ≡ power x n → x ≡ root y → y ≡ b → n ≡ num (value_of r) → ratio_of r ≡ whole z → whole_fraction z ≡ whole_fraction (numerator e)
    → rewritten b e ≡ Some t
rooted_as b e t x y n r z h u w k l m v f = grind arith
