use Rattle.expand_forms.proofs.{Shared.{◌++◌, drop, Lists, normal, product, polynomial_of, plain, tree_of, tree_at, without_root, forest}, JoinLoops.{IsJoined}}
use Rattle.expand_forms.proofs.joining.join_products.Given as goal

abbrev pub invariant-loop-at : goal.invariant-loop-at
invariant-loop-at g l = record {
  lists : Lists l.list l.sum (forest l.pool);
  joined : IsJoined l.sum (product (drop l.at (normal (polynomial_of (plain (tree_at l.a (without_root l.sum (forest l.fn.pool))))))) (normal (polynomial_of (plain (tree_at l.b (without_root l.sum (forest l.fn.pool)))))))
      (product (polynomial_of (plain (tree_at l.a (without_root l.sum (forest l.fn.pool)))))
      (polynomial_of (plain (tree_at l.b (without_root l.sum (forest l.fn.pool))))) ++ polynomial_of (tree_of l.sum l.fn.pool)) l.fn.pool l.pool;
}
