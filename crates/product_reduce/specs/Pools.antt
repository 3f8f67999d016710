-- What a call leaves of the pool.
use Rattle.std.specs.Prelude.{Result, OnOk, IfErr}
use Rattle.node_pool.specs.{declared.full.Full.{Full}, State.{State}}
use Rattle.tree_handles.specs.{Causes.{IsCaused}, Faults.{Faults}, Standing.{KeepsRefusals, LacksBytes, Refuses, Stands}, declared.fault.NumberFault.{NumberFault}}

-- it stands, an answer keeps its refusals, and a fault is one of this pool and has its cause
pub record LeavesPool {A : Type 0} (r : Result A NumberFault) (old new : State) : Type 0 where
  pub kept : OnOk r (KeepsRefusals old new)
  pub faults : IfErr r (Faults old new)
  pub caused : IfErr r (IsCaused new)
  pub stands : Stands new

-- the same of a call that is refused for bytes alone
pub record LeavesFull {A : Type 0} (r : Result A Full) (old new : State) : Type 0 where
  pub kept : OnOk r (KeepsRefusals old new)
  pub full : IfErr r (Refuses old new)
  pub caused : IfErr r (LacksBytes new)
  pub stands : Stands new
