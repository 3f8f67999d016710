-- How large the root of a rational is.
use Rattle.std.specs.Prelude.{ℕ, ◌*◌, ◌≤◌, max, nat_abs}
use Rattle.calc_algebra.specs.{Numbers.{value}, Surds.{Surd}}
use Rattle.calc_bits.specs.{Denominators.{Parts}, Masses.{root_above, mass, IsHeld, IsHeldByOne}}
use Rattle.calc_terms.specs.{Fractions.{Fraction}, Trees.{num}}

-- w, the root of p/q, has the denominator q and over it a mass of at most the root of p * q, rounded up, and is held as p/q is
pub record IsNoLargerThanRoot (x : Fraction) (w : Surd) : Type 0 where
  pub parts : Parts x.den w
  pub mass : mass x.den w ≤ max x.den (root_above (nat_abs x.num * x.den))
  pub held : (h l : ℕ) → IsHeld (value (num x)) h l → IsHeld w h l
  pub by_one : (h l : ℕ) → IsHeldByOne (value (num x)) h l → IsHeldByOne w h l
