-- How large a surd is, by whole numbers alone.
use Rattle.std.specs.Prelude.{ℕ, suc, ◌+◌, ◌*◌, ◌^◌, ◌≤◌, max, [], ◌∷◌, ◌==◌, if◌then◌else◌}
use Rattle.calc_algebra.specs.{SquareRoots.{square_root}, Surds.{Term, Surd}}
use Rattle.calc_bits.specs.Denominators.{Parts, magnitude_over}

-- the least number whose square is at least n
abbrev pub root_above : ℕ → ℕ
root_above n = let r = square_root n in if r * r == n then r else suc r

-- a whole bound on e times the magnitude of the term, where e parts it; m at least
abbrev pub term_mass : ℕ → ℕ → Term → ℕ
term_mass m e t = let n = magnitude_over e t.coefficient in max m (root_above (n * n * t.radicand))

-- the sum over the terms, m for each at least
abbrev pub mass_from : ℕ → ℕ → Surd → ℕ
mass_from m e [] = 0
mass_from m e (t ∷ v) = term_mass m e t + mass_from m e v

-- bounds e times the sum of the magnitudes of the terms, each counted as 1 at least
abbrev pub mass : ℕ → Surd → ℕ
mass e v = mass_from e e v

-- v is held by (h, l): some common denominator is at most 2 ^ l, and over some common denominator, of any size, the mass is at
-- most 2 ^ h
pub record IsHeld (v : Surd) (h l : ℕ) : Type 0 where
  pub denominator : ℕ
  pub parts : Parts denominator v
  pub low : denominator ≤ 2 ^ l
  pub scale : ℕ
  pub scaled : Parts scale v
  pub high : mass scale v ≤ scale * 2 ^ h

-- the same by one denominator, a term counted by its magnitude alone
pub record IsHeldByOne (v : Surd) (h l : ℕ) : Type 0 where
  pub denominator : ℕ
  pub parts : Parts denominator v
  pub low : denominator ≤ 2 ^ l
  pub high : mass_from 0 denominator v ≤ denominator * 2 ^ h
