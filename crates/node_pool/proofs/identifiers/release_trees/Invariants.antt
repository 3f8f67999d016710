use Rattle.node_pool.proofs.Shared.{◌≡◌, ◌-◌, ◌+◌, ◌*◌, ◌≤◌, length, since, used, IsBoundary, AreBelow, AreTakenBelow, without_ids, unheld, owed_behind}
use Rattle.node_pool.proofs.identifiers.release_trees.Given as goal

abbrev pub invariant-loop-owed : goal.invariant-loop-owed
invariant-loop-owed l = record {
  boundary : IsBoundary l.at l.buffer.nodes;
  known : AreBelow (length l.flags) (since l.at l.buffer.nodes);
  taken : AreTakenBelow l.below l.flags;
  few : l.owed ≤ 65536 * (l.at + 1);
  place : l.at + used (unheld l.owed (since l.at l.buffer.nodes)) ≡ l.from + used (unheld l.trees (since l.from l.buffer.nodes));
  still : owed_behind l.owed (unheld l.owed (since l.at l.buffer.nodes)) ≡ owed_behind l.trees (unheld l.trees (since l.from l.buffer.nodes));
  rest : without_ids (unheld l.owed (since l.at l.buffer.nodes)) l.flags ≡ without_ids (unheld l.trees (since l.from l.buffer.nodes)) l.initial.flags;
  gone : l.gone + length (unheld l.owed (since l.at l.buffer.nodes)) ≡ length (unheld l.trees (since l.from l.buffer.nodes));
}

abbrev pub decreases-loop-owed : goal.decreases-loop-owed
decreases-loop-owed l = used l.buffer.nodes - l.at
