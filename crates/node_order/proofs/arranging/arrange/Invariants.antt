use Rattle.node_order.proofs.{Shared.{◌≡◌, length, take, IsPermutation, picked_behind, kids, root_tree, put, Stands, forest, KeepsRefusals}, Inverses.{AreInverse}}
use Rattle.node_order.proofs.arranging.arrange.Given as goal

abbrev pub invariant-loop-at : goal.invariant-loop-at
invariant-loop-at l = record {
  stands : Stands l.pool;
  kept : KeepsRefusals l.initial.pool l.pool;
  shape : forest l.pool ≡ put l.parent (picked_behind l.from l.current (kids (root_tree l.parent (forest l.initial.pool)))) (forest l.initial.pool);
  moved : IsPermutation l.current l.order;
  inverse : AreInverse (length l.order) l.current l.whereabouts;
  same : take l.at l.current ≡ take l.at l.order;
}
