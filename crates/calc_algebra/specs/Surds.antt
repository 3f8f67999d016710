-- Surds: lists of rational multiples of square roots, not merged and not sorted.
use Rattle.std.specs.Prelude.{ℕ, zero, suc, ◌*◌, List, [], ◌∷◌, ◌++◌, map}
use Rattle.calc_terms.specs.Fractions.{Fraction, times, one_fraction}

-- the coefficient times the square root of the radicand
pub record Term : Type 0 where
  pub coefficient : Fraction
  pub radicand : ℕ

-- the sum of its terms
abbrev pub Surd : Type 0
Surd = List Term

abbrev pub term : Fraction → ℕ → Term
term q r = record { coefficient = q; radicand = r }

-- the rational q
abbrev pub surd_of : Fraction → Surd
surd_of q = term q 1 ∷ []

abbrev pub surd_one : Surd
surd_one = surd_of one_fraction

abbrev pub term_scale : Fraction → Term → Term
term_scale c t = term (times c t.coefficient) t.radicand

-- each coefficient times c
abbrev pub surd_scale : Fraction → Surd → Surd
surd_scale c v = map (term_scale c) v

abbrev pub term_times : Term → Term → Term
term_times t u = term (times t.coefficient u.coefficient) (t.radicand * u.radicand)

-- each term of the first times each term of the second
abbrev pub surd_times : Surd → Surd → Surd
surd_times [] w = []
surd_times (t ∷ v) w = map (term_times t) w ++ surd_times v w

-- n factors v
abbrev pub surd_power : Surd → ℕ → Surd
surd_power v zero = surd_one
surd_power v (suc zero) = v
surd_power v (suc (suc n)) = surd_times v (surd_power v (suc n))
