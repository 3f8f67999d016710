-- Surds within the bits that calculations have, and what is no larger than a surd or a power of one.
use Rattle.std.specs.Prelude.{ℕ, ◌+◌, ◌*◌, ◌^◌, ◌≤◌}
use Rattle.calc_algebra.specs.Surds.{Surd}
use Rattle.calc_bits.specs.{Denominators.{Parts, SharesDenominators}, Masses.{mass_from, IsHeld, IsHeldByOne}}

-- v is held within 124 bits
pub record HasFewBits (v : Surd) : Type 0 where
  pub high : ℕ
  pub low : ℕ
  pub held : IsHeld v high low
  pub few : 2 * high + 4 * low ≤ 124

-- w has the common denominators of v, over each of them no more mass, and is held as v is
pub record IsNoLarger (v w : Surd) : Type 0 where
  pub parts : SharesDenominators v w
  pub mass : (m e : ℕ) → Parts e v → mass_from m e w ≤ mass_from m e v
  pub held : (h l : ℕ) → IsHeld v h l → IsHeld w h l
  pub by_one : (h l : ℕ) → IsHeldByOne v h l → IsHeldByOne w h l

-- the n-th powers of the common denominators of v are some of w
abbrev pub SharesPowers : Surd → ℕ → Surd → Type 0
SharesPowers v n w = (d : ℕ) → Parts d v → Parts (d ^ n) w

-- over them w has at most the n-th power of the mass of v, and it is held by n times what holds v
pub record IsNoLargerThanPower (v : Surd) (n : ℕ) (w : Surd) : Type 0 where
  pub parts : SharesPowers v n w
  pub mass : (m e : ℕ) → Parts e v → mass_from (m ^ n) (e ^ n) w ≤ mass_from m e v ^ n
  pub held : (h l : ℕ) → IsHeld v h l → IsHeld w (n * h) (n * l)
  pub by_one : (h l : ℕ) → IsHeldByOne v h l → IsHeldByOne w (n * h) (n * l)
