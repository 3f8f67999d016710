-- Why a call that builds trees is refused.
use Rattle.std.specs.Prelude.{◌≡◌, false}
use Rattle.calc_terms.specs.declared.kind.Kind.TheVariants as kind
use Rattle.calc_terms.specs.{Kind.{size_by_form}, Rat.{value_of}}
use Rattle.node_pool.specs.{declared.full.Full.{Full}, State.{State}}
use Rattle.rational128.specs.{declared.overflow.Overflow.{Overflow}, Refusals.{DoesNotFit}}
use Rattle.tree_handles.specs.{Standing.{LacksBytes}, declared.fault.NumberFault.{NumberFault}}
use Rattle.tree_handles.specs.declared.fault.NumberFault.TheVariants as fault

-- the named operation on the named operands does not fit
abbrev pub Overflows : Overflow → Type 0
Overflows o = DoesNotFit o.op (value_of o.a) (value_of o.b)

-- the cause of a refused call on numbers
abbrev pub IsCaused : State → NumberFault → Type 0
IsCaused now (fault.Full full) = LacksBytes now full
IsCaused now (fault.Overflow o) = Overflows o

-- what lacks bytes is a number in the long form
abbrev pub LacksLongForm : Full → Type 0
LacksLongForm full = full.needed ≡ size_by_form kind.Num false

-- a call on rationals is refused for that alone
abbrev pub OnlyLacksLongForm : NumberFault → Type 0
OnlyLacksLongForm (fault.Full full) = LacksLongForm full
OnlyLacksLongForm (fault.Overflow o) = ⊥
