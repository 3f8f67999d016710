-- Common denominators of the coefficients of a surd.
use Rattle.std.specs.{Prelude.{ℕ, ◌*◌, ◌/◌, ◌<◌, ⊤, [], ◌∷◌, nat_abs}, Int.{◌∣◌}}
use Rattle.calc_terms.specs.Fractions.{Fraction}
use Rattle.calc_algebra.specs.Surds.{Surd}

-- d times each coefficient is whole
abbrev pub AreWholeOver : ℕ → Surd → Type 0
AreWholeOver d [] = ⊤
AreWholeOver d (t ∷ v) = (t.coefficient.den ∣ d) × AreWholeOver d v

-- d parts v: it is a common denominator of its coefficients, and not 0
pub record Parts (d : ℕ) (v : Surd) : Type 0 where
  pub positive : 0 < d
  pub whole : AreWholeOver d v

-- each common denominator of v is one of w
abbrev pub SharesDenominators : Surd → Surd → Type 0
SharesDenominators v w = (d : ℕ) → Parts d v → Parts d w

-- the magnitude of d * q, where that is whole
abbrev pub magnitude_over : ℕ → Fraction → ℕ
magnitude_over d q = nat_abs q.num * (d / q.den)
