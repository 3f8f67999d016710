-- Clean radicands: square-free as far as trial division by 2 to 10,000 sees.
use Rattle.std.specs.Prelude.{ℕ, zero, suc, ◌*◌, ◌/◌, ◌%◌, ◌-◌, ◌≢◌, ◌≤◌, ◌<◌, Bool, true, false, ◌&&◌, ◌==◌, not, nat_lt}
use Prim.Native.Nat.{◌∣◌}
use Rattle.calc_algebra.specs.SquareRoots.{square_root}

-- the greatest divisor that is tried
abbrev pub trial_limit : ℕ
trial_limit = 10000

-- r without its divisors d; r is below 2 ^ steps
abbrev pub without : ℕ → ℕ → ℕ → ℕ
without zero d r = r
without (suc steps) d r = elim (r % d) [ zero ↦ without steps d (r / d) | suc m ↦ r ]

-- r without its divisors d, d + 1 .. , as many as there are steps
abbrev pub left_from : ℕ → ℕ → ℕ → ℕ
left_from zero d r = r
left_from (suc steps) d r = left_from steps (suc d) (without r d r)

-- what is left of r when all divisors from 2 to 10,000 are divided out
unfoldable pub left_of : ℕ → ℕ
left_of r = left_from (trial_limit - 1) 2 r

-- none of the numbers d, d + 1 .. , as many as there are steps, has a square that divides r
abbrev pub no_square_divides : ℕ → ℕ → ℕ → Bool
no_square_divides zero d r = true
no_square_divides (suc steps) d r = elim (r % (d * d)) [ zero ↦ false | suc m ↦ no_square_divides steps (suc d) r ]

-- whether r is clean
unfoldable pub is_clean : ℕ → Bool
is_clean r = no_square_divides (trial_limit - 1) 2 r && (let m = left_of r in let s = square_root m in not (nat_lt 1 m && (s * s == m)))

-- no square of a number from 2 to 10,000 divides r, and what is left of r is no square above 1
pub record IsClean (r : ℕ) : Type 0 where
  pub no_square : (d : ℕ) → 2 ≤ d → d ≤ trial_limit → d * d ∣ r → ⊥
  pub no_rest : (s : ℕ) → 1 < s → left_of r ≢ s * s

-- a product of numbers from 2 to 10,000
pub data IsTried : ℕ → Type 0 where
  empty_product : IsTried 1
  one_factor_more : {d m : ℕ} → 2 ≤ d → d ≤ trial_limit → IsTried m → IsTried (d * m)
