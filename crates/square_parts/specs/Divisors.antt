-- Which divisors a number has.
use Rattle.std.specs.Prelude.{ℕ, ◌*◌, ◌≡◌, ◌≤◌, ◌<◌}
use Prim.Native.Nat.{◌∣◌}
use Rattle.calc_algebra.specs.Clean.{trial_limit}

-- no number from 2 to below d divides n
pub record HasNoDivisorBelow (d n : ℕ) : Type 0 where
  pub none : (e : ℕ) → 2 ≤ e → e < d → e ∣ n → ⊥

-- no square of a number above 1 divides n
pub record IsSquareFree (n : ℕ) : Type 0 where
  pub only_one : (e : ℕ) → e * e ∣ n → e ≡ 1

-- n is a product of numbers up to the trial limit: each of its divisors above 1 has a divisor from 2 to there
pub record IsSmooth (n : ℕ) : Type 0 where
  pub within : (e : ℕ) → 2 ≤ e → e ∣ n → (f : ℕ) × (2 ≤ f) × (f ≤ trial_limit) × (f ∣ e)

-- a number from 2 to the trial limit that divides n is n
pub record HasNoOtherDivisor (n : ℕ) : Type 0 where
  pub whole : (e : ℕ) → 2 ≤ e → e ≤ trial_limit → e ∣ n → e ≡ n
