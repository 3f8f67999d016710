use Rattle.std.proofs.Common.{sym, ap, subst, arith}
use Rattle.pool_layouts.specs.Drafts.{Draft, Measures}
use Rattle.tree_handles.specs.Standing.{forest}
use Rattle.acceptance.proofs.tests.pictures.push_rows.Goals as goal

pub loop-row-preserved : goal.loop-row-preserved
loop-row-preserved c = record {
  measured = subst (λ d. Measures d c.id-id.result (forest c.args.pool.now)) (sym c.write_row.ensures.kept) c.loop-row.invariant.measured;
  served = omega (arith, c.loop-row.invariant.served, ap (λ (d : Draft). d.pool_size) c.write_row.ensures.kept);
}
