use Rattle.std.proofs.Common.{◌≤◌}
use Rattle.pool_layouts.specs.Drafts.{Measures}
use Rattle.tree_handles.specs.Standing.{forest}
use Rattle.acceptance.proofs.tests.pictures.push_rows.Given as goal

abbrev pub invariant-loop-row : goal.invariant-loop-row
invariant-loop-row l = record {
  measured : Measures l.drafter l.id (forest l.pool);
  served : l.pool.size ≤ l.drafter.pool_size;
}
