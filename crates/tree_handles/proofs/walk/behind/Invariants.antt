use Rattle.tree_handles.proofs.Shared.{◌≡◌, ◌-◌, ◌+◌, ◌*◌, ◌≤◌, used, since, IsBoundary, skip}
use Rattle.tree_handles.proofs.walk.behind.Given as goal

abbrev pub invariant-loop-owed : goal.invariant-loop-owed
invariant-loop-owed l = record {
  boundary : IsBoundary l.place l.pool.nodes;
  within : l.place ≤ used l.pool.nodes;
  order : l.at ≤ l.place;
  rest : skip l.owed (since l.place l.pool.nodes) ≡ skip l.trees (since l.at l.pool.nodes);
  few : l.owed ≤ 65536 * (l.place + 1);
}

abbrev pub decreases-loop-owed : goal.decreases-loop-owed
decreases-loop-owed l = used l.pool.nodes - l.place
