use Rattle.pool_layouts.proofs.Shared.{◌≡◌, ◌≤◌, length, vec_capacity}
use Rattle.pool_layouts.proofs.extents.blank.Given as goal

abbrev pub invariant-loop : goal.invariant-loop
invariant-loop l = record {
  len : length l.extents.items ≡ l.counter;
  capacity : vec_capacity l.fn.extents ≤ vec_capacity l.extents;
}
