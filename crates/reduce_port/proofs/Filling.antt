-- A pool in which nodes are placed until one is refused.
use Rattle.reduce_port.proofs.Shared.{[], State, KeepsFront, Stands, forest, KeepsRefusals}
use Rattle.calc_terms.specs.declared.kind.Kind.TheVariants as kind

-- nodes were placed, and none was refused
pub record IsFilling (old now : State) : Type 0 where
  pub kept : KeepsRefusals old now
  pub front : KeepsFront [] (forest old) (forest now)
  pub stands : Stands now
