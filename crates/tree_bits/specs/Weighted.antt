-- Coefficients before parts, and what holds a sum of them.
use Rattle.std.specs.Prelude.{ℕ, ⊤, ◌+◌, ◌*◌, ◌^◌, ◌≤◌, ◌<◌, List, [], ◌∷◌, map, min}
use Rattle.calc_algebra.specs.Surds.{Surd}
use Rattle.calc_bits.specs.{Denominators.{Parts}, Masses.{mass}}

-- a coefficient before a part that is held by (high, low)
pub record Weighted : Type 0 where
  pub coefficient : Surd
  pub high : ℕ
  pub low : ℕ

abbrev pub weighted : Surd → ℕ → ℕ → Weighted
weighted c h l = record { coefficient = c; high = h; low = l }

abbrev pub coefficients : List Weighted → List Surd
coefficients ws = map (λ (w : Weighted). w.coefficient) ws

-- d is a common denominator of each coefficient
abbrev pub PartsAll : ℕ → List Weighted → Type 0
PartsAll d [] = ⊤
PartsAll d (w ∷ ws) = Parts d w.coefficient × PartsAll d ws

-- the bits of the denominators of all parts
abbrev pub lows : List Weighted → ℕ
lows [] = 0
lows (w ∷ ws) = w.low + lows ws

-- the masses of the coefficients, each times 2 to the bits of its part
abbrev pub weighted_mass : ℕ → List Weighted → ℕ
weighted_mass e [] = 0
weighted_mass e (w ∷ ws) = mass e w.coefficient * 2 ^ w.high + weighted_mass e ws

-- the sum is held by (h, l): some common denominator, with those of the parts, is at most 2 ^ l, and over some common
-- denominator, of any size, the weighted mass is at most that times 2 ^ h
pub record AreHeld (ws : List Weighted) (h l : ℕ) : Type 0 where
  pub denominator : ℕ
  pub positive : 0 < denominator
  pub parts : PartsAll denominator ws
  pub low : denominator * 2 ^ lows ws ≤ 2 ^ l
  pub scale : ℕ
  pub scale_positive : 0 < scale
  pub scaled : PartsAll scale ws
  pub high : weighted_mass scale ws ≤ scale * 2 ^ h

-- the lesser bits of two lists with the same coefficients
abbrev pub lesser : List Weighted → List Weighted → List Weighted
lesser (w ∷ ws) (v ∷ vs) = weighted w.coefficient (min w.high v.high) (min w.low v.low) ∷ lesser ws vs
lesser _ _ = []
