-- What is answered where a tree has a plain value.
use Rattle.std.specs.Prelude.{◌≡◌, ⊤}
use Rattle.calc_measures.specs.PlainValues.{PlainValue, exactly, undefined, overflow, nothing}
use Rattle.calc_terms.specs.{Rat.{value_of}, Trees.{Tree, num, undef}}
use Rattle.rational128.specs.{Refusals.{operation_of}, declared.overflow.Overflow.{Overflow}}

-- a tree is answered only where the plain value is no overflow: it is that rational, or Undef
abbrev pub IsPlainAnswer : PlainValue → Tree → Type 0
IsPlainAnswer (exactly q) answer = answer ≡ num q
IsPlainAnswer undefined answer = answer ≡ undef
IsPlainAnswer (overflow op a b) answer = ⊥
IsPlainAnswer nothing answer = ⊤

-- an overflow is answered only where the plain value is one, with that operation and those operands
abbrev pub IsPlainOverflow : PlainValue → Overflow → Type 0
IsPlainOverflow (exactly q) o = ⊥
IsPlainOverflow undefined o = ⊥
IsPlainOverflow (overflow op a b) o = (operation_of o.op ≡ op) × (value_of o.a ≡ a) × (value_of o.b ≡ b)
IsPlainOverflow nothing o = ⊤
