-- Terms as the code has them, and sorted lists of them.
use Rattle.std.specs.Prelude.{ℕ, ◌≡◌, ◌<◌, ⊤, false, List, [], ◌∷◌, map}
use Rattle.calc_terms.specs.{Fractions.{is_zero_fraction}, Rat.{value_of}}
use Rattle.polynomials.specs.{declared.term.Term.{Term}, Packed.{monomial_of}, Polynomials.{Summand, Polynomial, AreSame, summand}}

-- a fraction times a monomial
abbrev pub summand_of : Term → Summand
summand_of t = summand (value_of t.coefficient) (monomial_of t.monomial)

abbrev pub polynomial_of : List Term → Polynomial
polynomial_of ts = map summand_of ts

-- the packed monomial is below those of all terms
abbrev pub IsBelowAll : ℕ → List Term → Type 0
IsBelowAll k [] = ⊤
IsBelowAll k (t ∷ ts) = (k < t.monomial) × IsBelowAll k ts

-- packed monomials rise, so that each stands once, and no coefficient is 0
abbrev pub IsNormal : List Term → Type 0
IsNormal [] = ⊤
IsNormal (t ∷ ts) = (is_zero_fraction (value_of t.coefficient) ≡ false) × IsBelowAll t.monomial ts × IsNormal ts

-- the terms of a polynomial: sorted, and the same
pub record AreTermsOf (v : Polynomial) (ts : List Term) : Type 0 where
  pub normal : IsNormal ts
  pub same : AreSame (polynomial_of ts) v
