-- The operations on fractions that a call on terms is made of, in order, and the first of them that does not fit.
use Rattle.std.specs.{Prelude.{ℕ, ◌≡◌, ◌*◌, ◌/◌, ◌++◌, List, [], ◌∷◌, Bool, true, ◌||◌, ◌==◌, ◌↔◌, if◌then◌else◌, Option, Some, None, Result, Ok, Err, pos}, Int.{IsGcd}}
use Rattle.calc_terms.specs.{Fits.{operation_fits, fraction_fits}, Fractions.{Fraction, times, negative, inverse, whole_fraction}, Gcd.{gcd}, Rat.{value_of}, Ratio.{Ratio}}
use Rattle.calc_algebra.specs.{Clean.{IsClean}, SquareClasses.{are_alike}, SquareRoots.{square_root}, Surds.{Term}}
use Rattle.rational128.specs.{Refusals.{operation_of}, declared.overflow.Op.{Op}, declared.overflow.Op.TheVariants.{Add, Mul}, declared.overflow.Overflow.{Overflow}}
use Rattle.surd_terms.specs.Inverses.{square_of, conjugate_product}

-- an operation with its operands
pub record Calculation : Type 0 where
  pub op : Op
  pub first : Fraction
  pub second : Fraction

abbrev pub calculation : Op → Fraction → Fraction → Calculation
calculation op a b = record { op = op; first = a; second = b }

abbrev pub does_fit : Calculation → Bool
does_fit c = operation_fits (operation_of c.op) c.first c.second

-- the first that does not fit
abbrev pub first_misfit : List Calculation → Option Calculation
first_misfit [] = None
first_misfit (c ∷ cs) = if does_fit c then first_misfit cs else Some c

-- what an overflow names
abbrev pub calculation_of : Overflow → Calculation
calculation_of o = calculation o.op (value_of o.a) (value_of o.b)

-- what a call is refused for
abbrev pub misfit_of : {A : Type 0} → Result A Overflow → Option Calculation
misfit_of (Ok answer) = None
misfit_of (Err o) = Some (calculation_of o)

-- the coefficient of a term times a whole number
abbrev pub scaled : Term → ℕ → Fraction
scaled a n = times a.coefficient (whole_fraction (pos n))

abbrev pub scaling : Term → ℕ → Calculation
scaling a n = calculation Mul a.coefficient (whole_fraction (pos n))

-- ---- sums: (c * α + d * β) * √g, with radicands g * α * α and g * β * β

-- nothing is calculated where the terms stay apart
abbrev pub joining_calculations : Term → Term → List Calculation
joining_calculations a b =
    let g = gcd a.radicand b.radicand in
    let s = square_root (a.radicand / g) in
    let t = square_root (b.radicand / g) in
    if are_alike a.radicand b.radicand then scaling a s ∷ scaling b t ∷ calculation Add (scaled a s) (scaled b t) ∷ [] else []

-- ---- products: c * d * root * √rest, where r * s is root * root * rest

-- one of the two is rational
abbrev pub has_rational : Term → Term → Bool
has_rational a b = (a.radicand == 1) || (b.radicand == 1)

-- the product of the radicands over what they share
abbrev pub radicand_calculations : Term → Term → List Calculation
radicand_calculations a b =
    let g = gcd a.radicand b.radicand in
    if has_rational a b then [] else calculation Mul (whole_fraction (pos (a.radicand / g))) (whole_fraction (pos (b.radicand / g))) ∷ []

-- a whole number as it is cancelled against the denominators of c and d: what it shares with the first, what is left of it shares with the second, and the rest
pub record IsCancelled (n : ℕ) (c d : Fraction) (first second rest : ℕ) : Type 0 where
  pub whole : n ≡ first * second * rest
  pub with_first : IsGcd n c.den first
  pub with_second : IsGcd (second * rest) d.den second

-- c * d * n, once n is cancelled
abbrev pub cancelled_calculations : Fraction → Fraction → ℕ → ℕ → ℕ → List Calculation
cancelled_calculations c d first second rest =
    let x = times c (whole_fraction (pos first)) in
    let y = times d (whole_fraction (pos second)) in
    calculation Mul x y ∷ calculation Mul (times x y) (whole_fraction (pos rest)) ∷ []

-- what c * d * n is refused for: exactly where it does not fit, and then for the first product that does not fit once n is cancelled
pub record IsCancelledMisfit (c d : Fraction) (n : ℕ) (misfit : Option Calculation) : Type 0 where
  pub first : ℕ
  pub second : ℕ
  pub rest : ℕ
  pub cancelled : IsCancelled n c d first second rest
  pub named : misfit ≡ first_misfit (cancelled_calculations c d first second rest)
  pub exactly : (misfit ≡ None) ↔ (fraction_fits (times (times c d) (whole_fraction (pos n))) ≡ true)

-- what the product of two terms is refused for: that of the radicands over what they share, where it does not fit; else exactly where the coefficient of
-- the answer does not fit, which is c * d * root; root is what is taken out of r * s, so that the rest is clean
pub record IsProductMisfit (a b : Term) (misfit : Option Calculation) : Type 0 where
  pub root : ℕ
  pub rest : ℕ
  pub square : first_misfit (radicand_calculations a b) ≡ None → a.radicand * b.radicand ≡ root * root * rest
  pub clean : first_misfit (radicand_calculations a b) ≡ None → IsClean rest
  pub of_radicands : (c : Calculation) → first_misfit (radicand_calculations a b) ≡ Some c → misfit ≡ Some c
  pub of_coefficients : first_misfit (radicand_calculations a b) ≡ None → IsCancelledMisfit a.coefficient b.coefficient root misfit

-- ---- inverses

-- c * r
abbrev pub inverse_calculations : Term → List Calculation
inverse_calculations a = scaling a a.radicand ∷ []

-- c * c, and that times r
abbrev pub square_calculations : Term → List Calculation
square_calculations a =
    calculation Mul a.coefficient a.coefficient
    ∷ calculation Mul (times a.coefficient a.coefficient) (whole_fraction (pos a.radicand))
    ∷ []

-- the squares, their difference, and the terms of the conjugate over it
abbrev pub inverse_of_sum_calculations : Term → Term → List Calculation
inverse_of_sum_calculations a b =
    square_calculations a
    ++ square_calculations b
    ++ calculation Add (square_of a) (negative (square_of b))
    ∷ calculation Mul a.coefficient (inverse (conjugate_product a b))
    ∷ calculation Mul (negative b.coefficient) (inverse (conjugate_product a b))
    ∷ []

-- ---- roots

-- p * q, for the root of p/q
abbrev pub root_calculations : Ratio → List Calculation
root_calculations q = calculation Mul (whole_fraction q.num) (whole_fraction (pos q.den)) ∷ []
