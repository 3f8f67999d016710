-- Square classes: radicands are alike where their product is a square. Surds are equal class by class.
use Rattle.std.specs.Prelude.{ℕ, ◌*◌, ◌≡◌, List, [], ◌∷◌, map, Bool, ◌==◌, ◌&&◌, nat_le, if◌then◌else◌, Contains}
use Rattle.calc_terms.specs.Fractions.{Fraction, quotient, plus, times, zero_fraction}
use Rattle.calc_algebra.specs.{SquareRoots.{square_root}, Surds.{Term, Surd, surd_one, surd_times}}

-- r * s is a square, and not 0
abbrev pub are_alike : ℕ → ℕ → Bool
are_alike r s = (square_root (r * s) * square_root (r * s) == r * s) && nat_le 1 (square_root (r * s))

-- what the term gives to the class of s: q * (t/s) where r * s is the square of t, and t is not 0
abbrev pub term_share : Term → ℕ → Fraction
term_share a s = if are_alike a.radicand s then times a.coefficient (quotient (square_root (a.radicand * s)) s) else zero_fraction

-- the coefficient of the root of s in v, once all terms of its class are multiples of that root
abbrev pub class_coefficient : Surd → ℕ → Fraction
class_coefficient [] s = zero_fraction
class_coefficient (t ∷ v) s = plus (term_share t s) (class_coefficient v s)

abbrev pub radicands : Surd → List ℕ
radicands v = map (λ t. t.radicand) v

-- equal class by class: at each radicand that occurs in one of them
pub record Same (v w : Surd) : Type 0 where
  pub of_first : (s : ℕ) → Contains (radicands v) s → class_coefficient v s ≡ class_coefficient w s
  pub of_second : (s : ℕ) → Contains (radicands w) s → class_coefficient v s ≡ class_coefficient w s

-- y times w is 1
abbrev pub Inverts : Surd → Surd → Type 0
Inverts y w = Same (surd_times y w) surd_one
