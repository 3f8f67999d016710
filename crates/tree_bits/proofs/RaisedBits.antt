-- Bits of powers.
use Rattle.tree_bits.proofs.Shared.{◌≤◌, ℤ, arith, ◌≡◌, ℕ, ◌+◌, mul-le, HighLow, power_bounds, whole_numerator, whole_fraction, num, counts_of, power_high, power_low, raised_high, raised_low}
use Rattle.std.proofs.Common.{Some}

pub base_most : (n : ℤ) (b : HighLow) → (b.high ≤ (power_bounds (Some n) b).high) × (b.low ≤ (power_bounds (Some n) b).low)
base_most n b = grind (arith, mul-le)

-- of fewer bits they are fewer
pub raised_most : (n : ℤ) {p q h l : ℕ} → p ≤ h → q ≤ l → (raised_high n p q ≤ raised_high n h l) × (raised_low n p q ≤ raised_low n h l)
raised_most n h k = grind (arith, mul-le)

-- of two together they add up
pub raised_both : (n : ℤ) (p q k i : ℕ) → (raised_high n p q + raised_high n k i ≡ raised_high n (p + k) (q + i)) × (raised_low n p q + raised_low n k i ≡ raised_low n (p + k) (q + i))
raised_both n p q k i = grind arith

-- as a power counts them
pub counted_bits : (n : ℤ) (h l : ℕ) → (power_high (counts_of (num (whole_fraction n))) h l ≡ raised_high n h l) × (power_low (counts_of (num (whole_fraction n))) h l ≡ raised_low n h l)
counted_bits n h l = grind (arith, whole_numerator)
