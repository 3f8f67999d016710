-- Why a polynomial is not made.
use Rattle.std.specs.Prelude.{ℕ, ◌≡◌, ◌⊎◌, ⊤, List, [], ◌∷◌}
use Rattle.calc_terms.specs.Rat.{value_of}
use Rattle.polynomials.specs.{declared.term.Term.{Term}, declared.unfit.Unfit.{Unfit}, declared.unfit.Unfit.TheVariants.{Terms, Coefficient}}
use Rattle.rational128.specs.Refusals.{DoesNotFit}

-- the list has room for too few terms, or the operation does not fit
abbrev pub IsCaused : Type 0 → Unfit → Type 0
IsCaused few Terms = few
IsCaused few (Coefficient o) = DoesNotFit o.op (value_of o.a) (value_of o.b)

-- a term has the packed monomial
abbrev pub HasMonomial : ℕ → List Term → Type 0
HasMonomial k [] = ⊥
HasMonomial k (t ∷ ts) = (t.monomial ≡ k) ⊎ HasMonomial k ts

-- this holds where a coefficient does not fit
abbrev pub OfCoefficient : Type 0 → Unfit → Type 0
OfCoefficient p Terms = ⊤
OfCoefficient p (Coefficient o) = p
