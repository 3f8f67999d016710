-- What trial division has found of a number.
use Rattle.std.specs.{Prelude.{ℕ, ◌≡◌, ◌*◌, ◌^◌, ◌≤◌, ◌<◌}, Int.{IsGcd}}
use Rattle.calc_algebra.specs.Clean.{IsClean}
use Rattle.square_parts.specs.{declared.division.Found.{Found}, Divisors.{IsSquareFree, IsSmooth}}

-- the number itself
abbrev pub number_of : Found → ℕ
number_of f = f.root * f.root * (f.clean * f.rest)

-- the clean part has no square and only small divisors, none of them in common with the rest; of a clean number no
-- square is taken out
pub record IsFound (f : Found) : Type 0 where
  pub positive : 1 ≤ number_of f
  pub fits : number_of f < 2 ^ 127
  pub square_free : IsSquareFree f.clean
  pub smooth : IsSmooth f.clean
  pub apart : IsGcd f.clean f.rest 1
  pub untaken : IsClean (number_of f) → f.root ≡ 1
