use Rattle.pool_layouts.proofs.{Shared.{◌∙◌, sym, subst, empty, tree_at, forest, HasExtents}, Measuring.{IsMeasured, measured, measured_first, rows_are}, picture.rows.Goals.{After-as_slice-extents}}
use Rattle.pool_layouts.proofs.picture.rows.Goals as goal

measured_here : (c : After-as_slice-extents) → IsMeasured c.args.pool.now c.args.layout c.as_slice-extents.result.now
measured_here c =
    measured c.args.pool.now c.args.layout c.as_slice-extents.result.now c.requires.stands c.requires.layout
    (subst (HasExtents (tree_at c.args.layout (forest c.args.pool.now)) 0) (sym c.as_slice-extents.ensures.value) c.list_extents.ensures.listed)

pub extent_at-requires-clause-some : goal.extent_at-requires-clause-some
extent_at-requires-clause-some c = measured_first c.args.pool.now c.args.layout c.as_slice-extents.result.now (measured_here (goal.at.extent_at-requires-clause-some c).After-as_slice-extents)

pub returns-clause-rows : goal.returns-clause-rows
returns-clause-rows c =
    let m = measured_here (goal.at.returns-clause-rows c).After-as_slice-extents in
    c.height.ensures ∙ rows_are c.args.pool.now c.args.layout c.as_slice-extents.result.now c.extent_at.result m (c.extent_at.ensures.value m.label m.below empty m.small)
