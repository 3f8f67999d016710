use Rattle.std.proofs.Common.{◌<◌, ◌+◌, ◌^◌, [], ◌∷◌, IfSome}
use Rattle.deep_reduce.proofs.{Shared.{load_of_factors, IsLess, IsPairAt, tree_of, Gives, KeepsFront, without_root, children_of, Stands, forest, KeepsRefusals}, Measures.{of_product, of_pairs}}
use Rattle.deep_reduce.proofs.{Measures.{of_two, of_power, of_joint, of_powers, of_exponent, of_rewritten}, Rows.{IsPartReduced}}
use Rattle.deep_reduce.proofs.whole.+reduction.Given as goal

abbrev pub decreases-reduce_product : goal.decreases-reduce_product
decreases-reduce_product l = of_product (tree_of l.product l.pool.now)

abbrev pub decreases-join_pairs : goal.decreases-join_pairs
decreases-join_pairs l = of_pairs (tree_of l.product l.pool.now)

abbrev pub decreases-join_two : goal.decreases-join_two
decreases-join_two l = of_two (tree_of l.product l.pool.now)

abbrev pub invariant-join_pairs-loop-next : goal.invariant-join_pairs-loop-next
invariant-join_pairs-loop-next l = record {
  stands : Stands l.pool;
  kept : KeepsRefusals l.fn.pool l.pool;
  given : Gives (without_root l.fn.product (forest l.fn.pool)) (forest l.pool) l.joined (IsLess (children_of (tree_of l.fn.product l.fn.pool)));
  pair : IfSome l.next (λ at. IsPairAt at (children_of (tree_of l.joined l.pool)));
  fits : IfSome l.next (λ at. at + 1 < 2 ^ 16);
  front : KeepsFront (l.fn.product ∷ []) (forest l.fn.pool) (forest l.pool);
}

abbrev pub decreases-join_pairs-loop-next : goal.decreases-join_pairs-loop-next
decreases-join_pairs-loop-next l = load_of_factors (children_of (tree_of l.joined l.pool))

abbrev pub decreases-reduce_joint : goal.decreases-reduce_joint
decreases-reduce_joint l = of_joint l.at (tree_of l.product l.pool.now)

abbrev pub decreases-reduce_power : goal.decreases-reduce_power
decreases-reduce_power l = of_power (tree_of l.power l.pool.now)

abbrev pub decreases-reduce_rewritten : goal.decreases-reduce_rewritten
decreases-reduce_rewritten l = of_rewritten (tree_of l.tree l.pool.now)

abbrev pub decreases-reduce_powers : goal.decreases-reduce_powers
decreases-reduce_powers l = of_powers (tree_of l.product l.pool.now)

abbrev pub decreases-reduce_exponent : goal.decreases-reduce_exponent
decreases-reduce_exponent l = of_exponent (tree_of l.power l.pool.now)

abbrev pub invariant-reduce_powers-loop-at : goal.invariant-reduce_powers-loop-at
invariant-reduce_powers-loop-at l = record {
  stands : Stands l.pool;
  kept : KeepsRefusals l.fn.pool l.pool;
  part : IsPartReduced l.product l.at (children_of (tree_of l.product l.fn.pool)) (forest l.fn.pool) (forest l.pool);
}
