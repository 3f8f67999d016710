use Rattle.pool_layouts.proofs.{Shared.{◌≤◌, ◌-◌, ◌+◌, ◌*◌, length, vec_capacity, plain, tree_at, forest, layout}, UnderWay.IsUnderWay}
use Rattle.pool_layouts.proofs.laying.lay.Given as goal

abbrev pub invariant-loop-frame : goal.invariant-loop-frame
invariant-loop-frame l = record {
  under_way : IsUnderWay (layout (plain (tree_at l.fn.face (forest l.fn.pool)))) l.fn.pool l.pool l.at l.cells l.under_way.items;
  capacity : vec_capacity l.fn.under_way ≤ vec_capacity l.under_way;
}

abbrev pub decreases-loop-frame : goal.decreases-loop-frame
decreases-loop-frame l = 2 * (length l.cells - l.at) + length l.under_way.items
