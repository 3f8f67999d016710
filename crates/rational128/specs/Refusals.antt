-- When an operation on fractions does not fit.
use Rattle.std.specs.Prelude.{◌≡◌, Bool, true, false, Option, Some, None}
use Rattle.calc_terms.specs.{Fractions.{Fraction}, Fits.{Operation, add_op, mul_op, pow_op, operation_fits}, declared.rat.Rat.{Rat}, Rat.{value_of}}
use Rattle.rational128.specs.{declared.overflow.Op.{Op}, declared.overflow.Op.TheVariants.{Add, Mul, Pow}}

-- the operation that an `Op` names
abbrev pub operation_of : Op → Operation
operation_of Add = add_op
operation_of Mul = mul_op
operation_of Pow = pow_op

-- the operation on these fractions does not fit; the second operand of a power is the whole exponent
abbrev pub DoesNotFit : Op → Fraction → Fraction → Type 0
DoesNotFit op a b = operation_fits (operation_of op) a b ≡ false

-- the rational is this fraction where it fits, and is left out where it does not
abbrev pub Answers : Option Rat → Bool → Fraction → Type 0
Answers None fits f = fits ≡ false
Answers (Some r) fits f = (fits ≡ true) × (value_of r ≡ f)
