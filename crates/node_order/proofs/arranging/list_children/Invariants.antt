use Rattle.node_order.proofs.Shared.{◌≡◌, ◌<◌, ℕ, length, get_or, root_id, rest_trees, tree_nth, kids_of, forest}
use Rattle.node_order.proofs.arranging.list_children.Given as goal

abbrev pub invariant-loop-at : goal.invariant-loop-at
invariant-loop-at l = record {
  long : length l.listed ≡ length l.fn.listed;
  same : (n d : ℕ) → n < length l.yielded → get_or l.listed n d ≡ root_id (tree_nth n (rest_trees l.fn.from (kids_of l.fn.parent (forest l.fn.pool))));
}
