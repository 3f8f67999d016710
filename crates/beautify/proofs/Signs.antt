-- Signs and exponents of trees.
use Rattle.beautify.proofs.Shared.{◌≡◌, ℕ, arith, true, false, below_zero, int_is_negative, lt_z}
use Rattle.std.specs.Prelude.{ℤ, pos, nat_abs}

pub lt_z-zero : (p : ℤ) → lt_z p (pos 0) ≡ int_is_negative p
lt_z-zero p = grind arith

pub below_zero-fraction : (p : ℤ) (d : ℕ) → (d ≡ 1 → ⊥) → below_zero p d ≡ 0
below_zero-fraction p d h = grind arith

pub below_zero-positive : (p : ℤ) (d : ℕ) → int_is_negative p ≡ false → below_zero p d ≡ 0
below_zero-positive p d h = grind arith

pub below_zero-whole : (p : ℤ) (d : ℕ) → int_is_negative p ≡ true → d ≡ 1 → below_zero p d ≡ nat_abs p
below_zero-whole p d h e = grind arith
