use Rattle.node_order.proofs.Shared.{◌≡◌, ◌+◌, ◌<◌, ℕ, length, slice_index_or, Key, IsKey, key_tree, plains, nth, kids_of, forest}
use Rattle.node_order.proofs.sorting.list_keys.Given as goal

abbrev pub invariant-loop-at : goal.invariant-loop-at
invariant-loop-at g l = record {
  long : length l.listed ≡ length l.fn.listed;
  valid : (n : ℕ) (d : Key) → n < length l.yielded → IsKey (slice_index_or l.listed n d) (forest l.pool);
  trees : (n : ℕ) (d : Key) → n < length l.yielded
      → key_tree (slice_index_or l.listed n d) (forest l.pool) ≡ g.K.Keys.key_of (nth (l.fn.from + n) (plains (kids_of l.fn.parent (forest l.pool))));
}
