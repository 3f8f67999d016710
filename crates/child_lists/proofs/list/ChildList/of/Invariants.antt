use Rattle.child_lists.proofs.Shared.{◌≡◌, ◌≤◌, ◌++◌, length, root_ids, kids_of, forest}
use Rattle.child_lists.proofs.list.ChildList.of.Given as goal

abbrev pub invariant-loop-id : goal.invariant-loop-id
invariant-loop-id g l = record {
  left : root_ids (kids_of l.fn.parent (forest l.pool)) ≡ l.yielded ++ l.id-iterator;
  listed : l.ids.items ≡ l.yielded;
  few : length l.ids.items ≤ g.row.N;
}
