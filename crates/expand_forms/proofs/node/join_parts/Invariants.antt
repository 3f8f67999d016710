use Rattle.expand_forms.proofs.{Shared.{◌++◌, drop, Lists, polynomial_of, plain, tree_of, tree_at, without_root, forest, parts_of, total}, JoinLoops.{IsJoined}}
use Rattle.expand_forms.proofs.node.join_parts.Given as goal

abbrev pub invariant-loop-at : goal.invariant-loop-at
invariant-loop-at l = record {
  lists : Lists l.list l.sum (forest l.pool);
  joined : IsJoined l.sum (total (drop l.at (parts_of (plain (tree_at l.id (without_root l.sum (forest l.fn.pool)))))))
      (total (parts_of (plain (tree_at l.id (without_root l.sum (forest l.fn.pool))))) ++ polynomial_of (tree_of l.sum l.fn.pool)) l.fn.pool l.pool;
}
