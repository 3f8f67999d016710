-- What a refusal names.
use Rattle.calc_terms.specs.Rat.{value_of}
use Rattle.rational128.specs.{Refusals.{DoesNotFit}, declared.overflow.Overflow.{Overflow}}

-- the operation that it names does not fit
abbrev pub Overflows : Overflow → Type 0
Overflows o = DoesNotFit o.op (value_of o.a) (value_of o.b)
