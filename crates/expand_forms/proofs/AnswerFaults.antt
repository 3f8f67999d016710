-- The faults of a call on numbers that ends an expansion, as faults of the expansion.
use Rattle.expand_forms.proofs.Shared.{◌≡◌, ℕ, Result, Err, KeepsRefusals, NumberFault, OfFull, OfOverflow, State, Full, CountsRefusals, IfFull, IfInterrupted, fault_of, ReduceFault, kept_after}
use Rattle.expand_forms.proofs.Shared.{refuses_after, Faults, LacksBytes, Overflow, Interrupted, Overflows, IsCaused}
use Rattle.reduce_port.specs.Faults.{IfOverflow}
use Rattle.reduce_port.specs.declared.fault.ReduceFault.TheVariants as fault
use Rattle.tree_handles.specs.declared.fault.NumberFault.TheVariants as number

abbrev pub refused : NumberFault → Result ℕ ReduceFault
refused e = Err (fault_of e)

pub no_interruption : (e : NumberFault) (i : Interrupted) → refused e ≡ Err (fault.Interrupted i) → ⊥
no_interruption (number.Full full) i e = cc
no_interruption (number.Overflow o) i e = cc

pub told_interruption : (e : NumberFault) (P : ℕ → Type 0) → IfInterrupted (refused e) P
told_interruption (number.Full full) P = tt
told_interruption (number.Overflow o) P = tt

pub told_overflow : (e : NumberFault) {P Q : Overflow → Type 0} → OfOverflow P e → ((o : Overflow) → P o → Q o) → IfOverflow (refused e) Q
told_overflow (number.Full full) h k = tt
told_overflow (number.Overflow o) h k = k o h

pub told_full : (e : NumberFault) {P Q : Full → Type 0} → OfFull P e → ((full : Full) → P full → Q full) → IfFull (refused e) Q
told_full (number.Full full) h k = k full h
told_full (number.Overflow o) h k = tt

pub caused_overflow : (e : NumberFault) (now : State) → IsCaused now e → IfOverflow (refused e) Overflows
caused_overflow (number.Full full) now h = tt
caused_overflow (number.Overflow o) now h = h

pub caused_full : (e : NumberFault) (now : State) → IsCaused now e → IfFull (refused e) (LacksBytes now)
caused_full (number.Full full) now h = h
caused_full (number.Overflow o) now h = tt

pub told_refusals : (e : NumberFault) (old mid new : State) → KeepsRefusals old mid → Faults mid new e → CountsRefusals old new (refused e)
told_refusals (number.Full full) old mid new k h = refuses_after k h
told_refusals (number.Overflow o) old mid new k h = kept_after k h

abbrev pub refusal : ReduceFault → Result ℕ ReduceFault
refusal e = Err e
