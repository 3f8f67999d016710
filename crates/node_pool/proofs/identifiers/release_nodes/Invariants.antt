use Rattle.node_pool.proofs.Shared.{◌≡◌, ◌-◌, ◌+◌, ◌≤◌, length, between, IsBoundary, AreBelow, AreTakenBelow, without_ids}
use Rattle.node_pool.proofs.identifiers.release_nodes.Given as goal

abbrev pub invariant-loop-at : goal.invariant-loop-at
invariant-loop-at l = record {
  boundary : IsBoundary l.at l.buffer.nodes;
  within : l.at ≤ l.to;
  known : AreBelow (length l.flags) (between l.at l.to l.buffer.nodes);
  taken : AreTakenBelow l.below l.flags;
  rest : without_ids (between l.at l.to l.buffer.nodes) l.flags ≡ without_ids (between l.fn.from l.to l.buffer.nodes) l.initial.flags;
  gone : l.gone + length (between l.at l.to l.buffer.nodes) ≡ length (between l.fn.from l.to l.buffer.nodes);
}

abbrev pub decreases-loop-at : goal.decreases-loop-at
decreases-loop-at l = l.to - l.at
