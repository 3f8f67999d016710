-- What calls leave that build trees, whatever they answer.
use Rattle.std.specs.Prelude.{ℕ, List, Result, OnOk, IfErr}
use Rattle.node_pool.specs.{declared.full.Full.{Full}, State.{State}}
use Rattle.tree_handles.specs.{declared.fault.NumberFault.{NumberFault}, Causes.{IsCaused}, Faults.{Faults}, Handed.{KeepsFront}, Standing.{KeepsRefusals, LacksBytes, Refuses, Stands, forest}}

-- what stood first stays first but for the handed trees, and the pool stands; an answer counts no refusal, and a fault counts its own and has a cause
pub record IsSafe {A : Type 0} (handed : List ℕ) (old new : State) (r : Result A NumberFault) : Type 0 where
  pub front : KeepsFront handed (forest old) (forest new)
  pub kept : OnOk r (KeepsRefusals old new)
  pub faults : IfErr r (Faults old new)
  pub caused : IfErr r (IsCaused new)
  pub stands : Stands new

-- the same of a call that is refused for bytes alone
pub record IsSafePlacing {A : Type 0} (handed : List ℕ) (old new : State) (r : Result A Full) : Type 0 where
  pub front : KeepsFront handed (forest old) (forest new)
  pub kept : OnOk r (KeepsRefusals old new)
  pub full : IfErr r (Refuses old new)
  pub caused : IfErr r (LacksBytes new)
  pub stands : Stands new
