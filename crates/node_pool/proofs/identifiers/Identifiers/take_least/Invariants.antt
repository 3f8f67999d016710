use Rattle.node_pool.proofs.Shared.{◌-◌, length, AreTakenBelow}
use Rattle.node_pool.proofs.identifiers.Identifiers.take_least.Given as goal

abbrev pub invariant-loop-id : goal.invariant-loop-id
invariant-loop-id l = AreTakenBelow l.id l.self-inside.taken.items

abbrev pub decreases-loop-id : goal.decreases-loop-id
decreases-loop-id l = length l.self-inside.taken.items - l.id
