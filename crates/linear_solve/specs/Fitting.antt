-- Calculations of which an operation may not fit: they answer a value, or the first operation that does not.
use Rattle.std.specs.Prelude.{List, [], ◌∷◌, Result, Ok, Err, if◌then◌else◌}
use Rattle.calc_terms.specs.{Fits.{Operation, add_op, mul_op, operation_fits, result_of}, Fractions.{Fraction}}

-- an operation that does not fit, with its operands
pub record Misfit : Type 0 where
  pub op : Operation
  pub a : Fraction
  pub b : Fraction

-- one calculation, and then another on what it answers
abbrev pub and_then : {A B : Type 0} → Result A Misfit → (A → Result B Misfit) → Result B Misfit
and_then (Ok x) f = f x
and_then (Err m) f = Err m

-- one operation
abbrev pub fitted : Operation → Fraction → Fraction → Result Fraction Misfit
fitted op a b = if operation_fits op a b then Ok (result_of op a b) else Err (record { op = op; a = a; b = b })

abbrev pub sum_of : Fraction → Fraction → Result Fraction Misfit
sum_of a b = fitted add_op a b

abbrev pub product_of : Fraction → Fraction → Result Fraction Misfit
product_of a b = fitted mul_op a b

-- a calculation for each of a list, from the first to the last
abbrev pub each : {A B : Type 0} → (A → Result B Misfit) → List A → Result (List B) Misfit
each f [] = Ok []
each f (x ∷ xs) = and_then (f x) (λ y. and_then (each f xs) (λ ys. Ok (y ∷ ys)))
