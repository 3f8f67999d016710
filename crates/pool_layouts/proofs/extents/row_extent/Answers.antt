use Rattle.pool_layouts.proofs.{Shared.{◌+◌, refl, arith}, RowExtents.{gathering_start, row_small, next_part, gathered_more, gathered_all}, Measures.first_within}
use Rattle.pool_layouts.proofs.extents.row_extent.Goals as goal

pub loop-init : goal.loop-init
loop-init c = λ k h e. gathering_start k c.args.first c.args.extents.now h

pub extent_at-part-requires-clause-some : goal.extent_at-part-requires-clause-some
extent_at-part-requires-clause-some c =
    let (k, h, e) = c.requires.some in
    let (l, b, r, p) = next_part (c.loop.invariant k h e) (omega (arith, c.loop-test.true, e)) in
    (l, b, r, p.small)

pub beside-row-requires-clause-first : goal.beside-row-requires-clause-first
beside-row-requires-clause-first c = let (k, h, e) = c.requires.some in row_small h (c.loop.invariant k h e).before

pub overflow_add-at : goal.overflow_add-at
overflow_add-at c =
    let (k, h, e) = c.requires.some in
    let (l, b, r, p) = next_part (c.loop.invariant k h e) (omega (arith, c.loop-test.true, e)) in
    record { fits = omega (arith, first_within l b r c.loop.at c.args.extents.now p.small, c.requires.few, c.extent_at-part.ensures.small.nodes) }

pub loop-preserved : goal.loop-preserved
loop-preserved c = λ k h e.
    let (l, b, r, p) = next_part (c.loop.invariant k h e) (omega (arith, c.loop-test.true, e)) in
    record {
      others = r;
      before =
          gathered_more (c.loop.at + c.extent_at-part.result.nodes) c.beside-row.result c.extent_at-part.result p (c.extent_at-part.ensures.value l b r p.small) refl c.beside-row.ensures;
    }

pub returns : goal.returns
returns c = λ k h e. gathered_all (c.loop.invariant k h e) (omega (arith, c.loop-test.false, e))
