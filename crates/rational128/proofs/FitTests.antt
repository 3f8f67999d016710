-- Tests of what fits.
use Rattle.rational128.proofs.Shared.{◌≡◌, ℕ, ◌<◌, ◌≤◌, ◌^◌, ℤ, true, false, arith, nat_abs, lt-ltb, le-ltb, fits}

pub fits_yes : (z : ℤ) → nat_abs z < 2 ^ 127 → fits z ≡ true
fits_yes z h = lt-ltb _ _ h

pub fits_no : (z : ℤ) (n : ℕ) → nat_abs z ≡ n → ¬ (n < 2 ^ 127) → fits z ≡ false
fits_no z n e h = le-ltb _ _ (let le : 2 ^ 127 ≤ nat_abs z = omega arith in le)
