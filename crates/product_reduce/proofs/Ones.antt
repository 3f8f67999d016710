-- The rational 1 by its parts.
use Rattle.product_reduce.proofs.Shared.{arith, ◌≡◌, ℕ, Bool, true, false, ◌↔◌, FitsSigned, of_z, nat_eq, IsTrue, w128, Fraction, is_one_fraction}
use Rattle.std.proofs.Common.{ℤ}

-- a numerator, over 1
pub one_over_one : (q : Fraction) (z : ℤ) → FitsSigned w128 z → z ≡ q.num → q.den ≡ 1 → nat_eq (of_z w128 z) 1 ≡ is_one_fraction q
one_over_one q z h e d = grind arith

pub not_over_one : (q : Fraction) (b : Bool) (d : ℕ) → (IsTrue b ↔ (d ≡ 1)) → b ≡ false → q.den ≡ d → b ≡ is_one_fraction q
not_over_one q b d h f e = grind arith

pub whole_over_one : (b : Bool) (d : ℕ) → (IsTrue b ↔ (d ≡ 1)) → b ≡ true → d ≡ 1
whole_over_one b d h e = grind arith
