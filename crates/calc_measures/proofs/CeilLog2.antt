-- The least exponent of 2 that reaches a number.
use Rattle.calc_measures.proofs.Shared.{◌≡◌, ℕ, zero, suc, ◌+◌, ◌^◌, ◌≤◌, ◌<◌, Bool, true, false, refl, arith, leb-true, leb-false, nat_le, ◌⊎◌, inl, inr, below_power, least_exponent, ceil_log2}

-- k is the least exponent with n at most 2 to its power
pub record IsCeilLog2 (n k : ℕ) : Type 0 where
  pub enough : n ≤ 2 ^ k
  pub least : (j : ℕ) → j < k → 2 ^ j < n

least_exponent_is : (steps k n : ℕ) → n ≤ k + steps → ((j : ℕ) → j < k → 2 ^ j < n) → IsCeilLog2 n (least_exponent steps k n)
least_exponent_is zero k n h f = let g = below_power k in record { enough = omega arith; least = f }
least_exponent_is (suc steps) k n h f = by (nat_le n (2 ^ k)) refl (λ g. least_exponent_is steps (suc k) n (omega arith) g)
  where
    below : 2 ^ k < n → (j : ℕ) → j < suc k → 2 ^ j < n
    below g j l = at (order j k l)
      where
        order : (j k : ℕ) → j < suc k → (j < k) ⊎ (j ≡ k)
        order j k l = grind arith

        at : (j < k) ⊎ (j ≡ k) → 2 ^ j < n
        at (inl m) = f j m
        at (inr e) = rw e g

    by : (b : Bool) → nat_le n (2 ^ k) ≡ b → (((j : ℕ) → j < suc k → 2 ^ j < n) → IsCeilLog2 n (least_exponent steps (suc k) n))
        → IsCeilLog2 n (elim b [ true ↦ k | false ↦ least_exponent steps (suc k) n ])
    by true e go = record { enough = leb-true n (2 ^ k) e; least = f }
    by false e go = go (below (omega (arith, leb-false n (2 ^ k) e)))

pub ceil_log2_is : (n : ℕ) → IsCeilLog2 n (ceil_log2 n)
ceil_log2_is n = least_exponent_is n 0 n (omega arith) (λ j l. absurd (omega arith))
