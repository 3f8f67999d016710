use Rattle.name_table.proofs.{Shared.{◌≤◌, map, drop, entry_of, depth, tree_of, depth_limit}, Filled.{IsFilled}}
use Rattle.name_table.proofs.table.NameTable.fill.Given as goal

abbrev pub invariant-loop-slot : goal.invariant-loop-slot
invariant-loop-slot l = record {
  filled : IsFilled l.fn.self l.fn.tree l.fn.pool (map entry_of (drop l.slot-index l.slot-items)) l.filled l.pool;
  shallow : depth (tree_of l.filled l.pool) ≤ depth_limit;
}
