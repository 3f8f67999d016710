-- How large an inverse is.
use Rattle.std.specs.Prelude.{ℕ, ◌+◌, ◌*◌, ◌≤◌, [], ◌∷◌}
use Rattle.calc_algebra.specs.Surds.{Surd}
use Rattle.calc_bits.specs.{Denominators.{Parts}, Masses.{mass_from, IsHeld, IsHeldByOne}}
use Rattle.surd_bits.specs.Proper.{square_over}

-- the sum of the squares of d times the terms
abbrev pub squares_over : ℕ → Surd → ℕ
squares_over d [] = 0
squares_over d (t ∷ v) = square_over d t + squares_over d v

-- a common denominator of w that is at most the squares of v over d, and over e times which w has at most d * d times it of the mass that v has over e
pub record IsInverseMeasure (d e m : ℕ) (v w : Surd) (f : ℕ) : Type 0 where
  pub at_most : f ≤ squares_over d v
  pub parts : Parts f w
  pub scaled : Parts (e * f) w
  pub mass : mass_from (f * m) (e * f) w ≤ (f * (d * d)) * mass_from m e v

-- w, an inverse of v, is measured over each two common denominators of v, and is held by what holds v
pub record IsNoLargerThanInverse (v w : Surd) : Type 0 where
  pub measured : (d e m : ℕ) → Parts d v → Parts e v → (f : ℕ) × IsInverseMeasure d e m v w f
  pub held : (h l : ℕ) → IsHeld v h l → IsHeld w (h + 2 * l) (2 * h + 2 * l)
  pub by_one : (h l : ℕ) → IsHeldByOne v h l → IsHeldByOne w (h + 2 * l) (2 * h + 2 * l)
