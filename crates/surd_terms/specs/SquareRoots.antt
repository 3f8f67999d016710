-- Roots of rationals as terms.
use Rattle.std.specs.Prelude.{ℕ, ◌*◌, ◌≡◌, nat_abs}
use Rattle.calc_terms.specs.{Fractions.{quotient}, Ratio.{Ratio}}
use Rattle.calc_algebra.specs.Surds.{Term}

-- √(p/q) as (root/q) * √r, where p * q is root * root * r
pub record IsRootTerm (t : Term) (f : Ratio) : Type 0 where
  pub root : ℕ
  pub square : nat_abs f.num * f.den ≡ root * root * t.radicand
  pub coefficient : t.coefficient ≡ quotient root f.den
