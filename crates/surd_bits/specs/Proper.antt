-- Terms other than 0, their squares, and a rational as a quotient.
use Rattle.std.specs.Prelude.{ℕ, ◌*◌, ◌≢◌, ◌<◌}
use Rattle.calc_terms.specs.{Fractions.{Fraction, zero_fraction}, Ratio.{Ratio}}
use Rattle.calc_algebra.specs.Surds.{Term}
use Rattle.calc_bits.specs.Denominators.{magnitude_over}

-- neither its coefficient nor its radicand is 0
pub record IsProper (t : Term) : Type 0 where
  pub coefficient : t.coefficient ≢ zero_fraction
  pub radicand : 0 < t.radicand

-- its numerator and its denominator side by side
abbrev pub parts_of : Fraction → Ratio
parts_of q = record { num = q.num; den = q.den }

-- the square of d times the term, where its coefficient is whole over d
abbrev pub square_over : ℕ → Term → ℕ
square_over d t = let n = magnitude_over d t.coefficient in n * n * t.radicand
