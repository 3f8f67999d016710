-- What a refused call on numbers leaves of the count of refusals, and facts of the operation that does not fit.
use Rattle.std.specs.Prelude.{Result, Ok, Err, ⊤}
use Rattle.node_pool.specs.State.{State}
use Rattle.rational128.specs.declared.overflow.Overflow.{Overflow}
use Rattle.tree_handles.specs.declared.fault.NumberFault.{NumberFault}
use Rattle.tree_handles.specs.declared.fault.NumberFault.TheVariants as fault
use Rattle.tree_handles.specs.Standing.{KeepsRefusals, Refuses}

-- where bytes are short that refusal was counted, and where an operation does not fit none was
abbrev pub Faults : State → State → NumberFault → Type 0
Faults old new (fault.Full full) = Refuses old new full
Faults old new (fault.Overflow overflow) = KeepsRefusals old new

-- a fact of the operation that does not fit
abbrev pub OfOverflow : (Overflow → Type 0) → NumberFault → Type 0
OfOverflow P (fault.Full full) = ⊤
OfOverflow P (fault.Overflow o) = P o

-- the same of a result
abbrev pub IfOverflow : {A : Type 0} → Result A NumberFault → (Overflow → Type 0) → Type 0
IfOverflow (Ok x) P = ⊤
IfOverflow (Err (fault.Full full)) P = ⊤
IfOverflow (Err (fault.Overflow o)) P = P o
