-- How a walk ends without an answer.
use Rattle.std.specs.Prelude.{ℕ, ◌+◌, ◌≤◌, List}
use Rattle.breakers.specs.{Breakers.{CalmChecks, CalmUpTo, TripsWithin}, State.{State as BreakerState}}
use Rattle.calc_terms.specs.Trees.{Tree, nodes, size}
use Rattle.node_pool.specs.State.{State, free_of}
use Rattle.rational128.specs.declared.overflow.Overflow.{Overflow}
use Rattle.reduce_port.specs.declared.fault.ReduceFault.{ReduceFault}
use Rattle.reduce_port.specs.declared.fault.ReduceFault.TheVariants as fault
use Rattle.tree_handles.specs.{Causes.{Overflows}, Standing.{LacksBytes, KeepsRefusals, Refuses}}

-- the step at one of the tree's nodes does not fit, and a check was made for each node up to that one
pub record IsUnfitAt (U : Tree → ℕ → Overflow → Type 0) (t : Tree) (before after : List BreakerState) (o : Overflow) : Type 0 where
  pub place : ℕ
  pub some : 1 ≤ place
  pub few : place ≤ nodes t
  pub calm : CalmChecks place before after
  pub unfit : U t place o

-- bytes were lacking, an operation did not fit, or a breaker tripped, with the checks that were made until then
abbrev pub Stops : (Tree → ℕ → Type 0) → (Tree → ℕ → Overflow → Type 0) → Tree → State → State → List BreakerState → List BreakerState → ReduceFault → Type 0
Stops L U t old new before after (fault.Full full) = LacksBytes new full × Refuses old new full × CalmUpTo (nodes t) before after × L t (free_of old + size t)
Stops L U t old new before after (fault.Overflow o) = Overflows o × KeepsRefusals old new × IsUnfitAt U t before after o
Stops L U t old new before after (fault.Interrupted i) = KeepsRefusals old new × TripsWithin (nodes t) before after i.by
