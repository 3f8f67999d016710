use Rattle.node_pool.proofs.Shared.{◌≡◌, ◌-◌, ◌≤◌, length, AreBelow, noted, between, IsBoundary}
use Rattle.node_pool.proofs.places.note_nodes.Given as goal

abbrev pub invariant-loop-at : goal.invariant-loop-at
invariant-loop-at l = record {
  boundary : IsBoundary l.at l.buffer.nodes;
  within : l.at ≤ l.to;
  known : AreBelow (length l.list) (between l.at l.to l.buffer.nodes);
  rest : noted l.at (between l.at l.to l.buffer.nodes) l.list ≡ noted l.fn.from (between l.fn.from l.to l.buffer.nodes) l.initial.list;
}

abbrev pub decreases-loop-at : goal.decreases-loop-at
decreases-loop-at l = l.to - l.at
