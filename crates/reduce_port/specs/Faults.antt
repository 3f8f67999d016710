-- The ways in which a reduction is refused.
use Rattle.std.specs.Prelude.{ℕ, Result, Ok, Err, ⊤}
use Rattle.node_pool.specs.{State.{State}, declared.full.Full.{Full}}
use Rattle.rational128.specs.declared.overflow.Overflow.{Overflow}
use Rattle.reduce_port.specs.declared.fault.ReduceFault.{ReduceFault}
use Rattle.reduce_port.specs.declared.fault.ReduceFault.TheVariants as fault
use Rattle.tree_handles.specs.{Standing.{KeepsRefusals, Refuses}, declared.fault.NumberFault.{NumberFault}}
use Rattle.tree_handles.specs.declared.fault.NumberFault.TheVariants as number

-- a fact of the refusal where bytes are lacking
abbrev pub IfFull : {A : Type 0} → Result A ReduceFault → (Full → Type 0) → Type 0
IfFull (Ok x) P = ⊤
IfFull (Err (fault.Full full)) P = P full
IfFull (Err (fault.Overflow o)) P = ⊤
IfFull (Err (fault.Interrupted i)) P = ⊤

-- a fact of the operation where one does not fit
abbrev pub IfOverflow : {A : Type 0} → Result A ReduceFault → (Overflow → Type 0) → Type 0
IfOverflow (Ok x) P = ⊤
IfOverflow (Err (fault.Full full)) P = ⊤
IfOverflow (Err (fault.Overflow o)) P = P o
IfOverflow (Err (fault.Interrupted i)) P = ⊤

-- a fact of the breaker's place where one tripped
abbrev pub IfInterrupted : {A : Type 0} → Result A ReduceFault → (ℕ → Type 0) → Type 0
IfInterrupted (Ok x) P = ⊤
IfInterrupted (Err (fault.Full full)) P = ⊤
IfInterrupted (Err (fault.Overflow o)) P = ⊤
IfInterrupted (Err (fault.Interrupted i)) P = P i.by

-- one more refusal is counted where bytes are lacking, and it is the last one; else all but the nodes is as before
abbrev pub CountsRefusals : {A : Type 0} → State → State → Result A ReduceFault → Type 0
CountsRefusals old new (Ok x) = KeepsRefusals old new
CountsRefusals old new (Err (fault.Full full)) = Refuses old new full
CountsRefusals old new (Err (fault.Overflow o)) = KeepsRefusals old new
CountsRefusals old new (Err (fault.Interrupted i)) = KeepsRefusals old new

-- a fault of a call on numbers, as a fault of a reduction
abbrev pub fault_of : NumberFault → ReduceFault
fault_of (number.Full full) = fault.Full full
fault_of (number.Overflow o) = fault.Overflow o
