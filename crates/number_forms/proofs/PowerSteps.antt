-- Powers by squares.
use Rattle.number_forms.proofs.Shared.{◌≡◌, ◌≢◌, ℕ, ◌+◌, ◌*◌, ◌/◌, ◌%◌, ◌≤◌, ◌<◌, arith}

pub half_even : (n : ℕ) → n % 2 ≡ 0 → 2 * (n / 2) ≡ n
half_even n e = omega arith

pub half_last : (n : ℕ) → n % 2 ≢ 0 → n ≡ 2 * (n / 2) + 1
half_last n e = omega arith

pub half_below : (n : ℕ) → n / 2 ≤ n
half_below n = omega arith

pub half_twice : (n : ℕ) → 2 ≤ n → 1 ≤ n / 2
half_twice n h = omega arith

-- of the exponents 2 and 3
pub half_one : (n : ℕ) → 2 ≤ n → n < 4 → n / 2 ≡ 1
half_one n h k = omega arith

-- what is left where it is not squared, and where it is
pub half_within : (n : ℕ) → n ≤ 64 → n ≤ n / 2 + 32
half_within n h = omega arith

pub half_positive : (n : ℕ) → 2 ≤ n → 1 ≤ 2 * (n / 2)
half_positive n h = omega arith

pub half_again : (n : ℕ) → 2 * (n / 2) ≤ n
half_again n = omega arith

pub half_next : (n : ℕ) → n ≤ 2 * (n / 2) + 32
half_next n = omega arith

pub next_below : (k n : ℕ) → k ≤ n → k ≢ n → k < n
next_below k n h e = omega arith
