-- Polynomials in one name as lists of coefficients.
use Rattle.std.specs.Prelude.{ℕ, zero, suc, List, [], ◌∷◌, ◌++◌, map, ◌≢◌}
use Rattle.calc_terms.specs.Fractions.{Fraction, plus, times, negative, zero_fraction}
use Rattle.calc_algebra.specs.Surds.{Surd, surd_of, surd_times}

-- the coefficients from that of the power 0 on
abbrev pub Dense : Type 0
Dense = List Fraction

-- the coefficient of a power, 0 above the degree
abbrev pub at : ℕ → Dense → Fraction
at k [] = zero_fraction
at zero (q ∷ p) = q
at (suc k) (q ∷ p) = at k p

-- that of the power before it
abbrev pub before : ℕ → Dense → Fraction
before zero p = zero_fraction
before (suc k) p = at k p

-- what it is worth where the name is the surd, by Horner's rule
abbrev pub worth : Dense → Surd → Surd
worth [] v = []
worth (q ∷ p) v = surd_of q ++ surd_times v (worth p v)

-- what it is worth where the name is the fraction
abbrev pub value : Dense → Fraction → Fraction
value [] r = zero_fraction
value (q ∷ p) r = plus q (times r (value p r))

-- the sum, entry by entry
abbrev pub dense_plus : Dense → Dense → Dense
dense_plus [] w = w
dense_plus (q ∷ v) [] = q ∷ v
dense_plus (q ∷ v) (r ∷ w) = plus q r ∷ dense_plus v w

-- times X - q
abbrev pub times_linear : Fraction → Dense → Dense
times_linear q p = dense_plus (zero_fraction ∷ p) (map (times (negative q)) p)

-- times X - q for each q of a list
abbrev pub times_all : List Fraction → Dense → Dense
times_all [] p = p
times_all (q ∷ qs) p = times_linear q (times_all qs p)

-- the last coefficient is not 0
abbrev pub HasLeading : Dense → Type 0
HasLeading [] = ⊥
HasLeading (q ∷ []) = q ≢ zero_fraction
HasLeading (q ∷ r ∷ p) = HasLeading (r ∷ p)
