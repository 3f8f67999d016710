-- Square parts of radicands.
use Rattle.std.specs.Prelude.{ℕ, ◌*◌, ◌/◌, ◌^◌, ◌<◌, ◌≡◌, ◌⊎◌, pos}
use Rattle.calc_terms.specs.{Fractions.{times, whole_fraction}, Gcd.{gcd}}
use Rattle.calc_algebra.specs.Surds.{Term}

-- t is u with a square of its radicand taken before the root
pub record IsExtracted (t u : Term) : Type 0 where
  pub root : ℕ
  pub square : u.radicand ≡ root * root * t.radicand
  pub coefficient : t.coefficient ≡ times u.coefficient (whole_fraction (pos root))

-- one of the two is rational
abbrev pub HasRational : Term → Term → Type 0
HasRational a b = (a.radicand ≡ 1) ⊎ (b.radicand ≡ 1)

-- both are below the least number that may be clean and have a square in it
abbrev pub AreSquareFree : ℕ → ℕ → Type 0
AreSquareFree r s = (r < 10 ^ 12) × (s < 10 ^ 12)

-- the product of two radicands, each over what they share
abbrev pub undivided : ℕ → ℕ → ℕ
undivided r s = (r / gcd r s) * (s / gcd r s)
