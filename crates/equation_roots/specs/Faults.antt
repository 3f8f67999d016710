-- The ways in which roots are refused.
use Rattle.std.specs.Prelude.{Result, Ok, Err, ⊤}
use Rattle.rational128.specs.declared.overflow.Overflow.{Overflow}
use Rattle.equation_roots.specs.declared.fault.RootFault.{RootFault}
use Rattle.equation_roots.specs.declared.fault.RootFault.TheVariants as fault

-- a fact of the operation where one does not fit
abbrev pub IfOverflow : {A : Type 0} → Result A RootFault → (Overflow → Type 0) → Type 0
IfOverflow (Ok x) P = ⊤
IfOverflow (Err fault.Degree) P = ⊤
IfOverflow (Err (fault.Overflow o)) P = P o

-- a fact where something of degree 3 or more is left
abbrev pub IfDegree : {A : Type 0} → Result A RootFault → Type 0 → Type 0
IfDegree (Ok x) P = ⊤
IfDegree (Err fault.Degree) P = P
IfDegree (Err (fault.Overflow o)) P = ⊤
