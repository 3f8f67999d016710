use Rattle.tree_handles.proofs.Shared.{◌≡◌, IsPool, IsOwed, owed_nodes, released_at}
use Rattle.tree_handles.proofs.releasing.release_at.Given as goal

abbrev pub invariant-loop-owed : goal.invariant-loop-owed
invariant-loop-owed l = record {
  owed : IsOwed l.pool.nodes l.place l.owed (released_at l.at 1 l.fn.pool.nodes);
  pool : IsPool l.pool;
  others : l.pool ≡ record l.fn.pool { nodes = l.pool.nodes };
}

abbrev pub decreases-loop-owed : goal.decreases-loop-owed
decreases-loop-owed l = owed_nodes l.pool.nodes l.place l.owed
