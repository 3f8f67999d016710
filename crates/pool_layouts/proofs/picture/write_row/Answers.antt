use Rattle.pool_layouts.proofs.Shared.{rules, ◌∙◌, ◌++◌, ◌∷◌, ◌≡◌, [], List, length, sym, ap, subst, arith, empty, tree_at, forest, Extent, Step, Draft, drawing}
use Rattle.pool_layouts.proofs.{Shared.{HasExtents, IsLine, span_of, picture, visits_of, few_in, visits_length}, Measuring.{IsMeasured, measured, measured_first, nodes_served}}
use Rattle.pool_layouts.proofs.{RowLines.{row_line, row_room}, picture.write_row.Goals.{After-append, After-as_slice-cells, After-as_slice-extents}}
use Rattle.pool_layouts.specs.declared.steps.Step.TheVariants as step
use Rattle.pool_layouts.proofs.picture.write_row.Goals as goal

measured_here : (c : After-as_slice-extents) → IsMeasured c.args.pool.now c.args.layout c.as_slice-extents.result.now
measured_here c =
    measured c.args.pool.now c.args.layout c.as_slice-extents.result.now c.requires.stands c.requires.layout
    (subst (HasExtents (tree_at c.args.layout (forest c.args.pool.now)) 0) (sym (c.as_slice-extents.ensures.value ∙ ap (λ (d : Draft). d.extents) c.drafter.view_is)) c.requires.measured.measured)

listed_here : (c : After-as_slice-cells) → c.as_slice-cells.result.now ≡ visits_of (tree_at c.args.layout (forest c.args.pool.now))
listed_here c = c.as_slice-cells.ensures.value ∙ ap (λ (d : Draft). d.nodes) c.drafter.view_is ∙ c.requires.measured.listed

pub extent_at-requires-clause-some : goal.extent_at-requires-clause-some
extent_at-requires-clause-some c = measured_first c.args.pool.now c.args.layout c.as_slice-extents.result.now (measured_here (goal.at.extent_at-requires-clause-some c).After-as_slice-extents)

line_here : (c : After-append)
    → IsLine (forest c.args.pool.now) c.as_slice-cells.result.now c.as_slice-extents.result.now c.append.new.list.items
    ((picture (drawing (tree_at c.args.layout (forest c.args.pool.now)))).line c.args.row)
line_here c =
    let m = measured c.args.pool.now c.args.layout c.as_slice-extents.result.now c.requires.stands c.requires.layout
    (subst (HasExtents (tree_at c.args.layout (forest c.args.pool.now)) 0) (sym (c.as_slice-extents.ensures.value ∙ ap (λ (d : Draft). d.extents) c.drafter.view_is)) c.requires.measured.measured) in
    row_line c.args.pool.now c.args.layout c.as_slice-cells.result.now c.as_slice-extents.result.now c.append.new.list.items c.extent_at.result.nodes c.args.row c.requires.stands c.requires.layout
    (c.as_slice-cells.ensures.value ∙ ap (λ (d : Draft). d.nodes) c.drafter.view_is ∙ c.requires.measured.listed) m
    (ap (λ (x : Extent). x.nodes) (c.extent_at.ensures.value m.label m.below empty m.small)) c.requires.row
    (c.append.ensures.items ∙ ap (λ (x : List Step). x ++ step.Part (span_of 0 c.extent_at.result.nodes) c.args.row ∷ []) c.clear.ensures.items)

pub paint-requires : goal.paint-requires
paint-requires c =
    record {
      deep = omega (arith, ap length (listed_here (goal.at.paint-requires c).After-as_slice-cells), visits_length (tree_at c.args.layout (forest c.args.pool.now)), nodes_served c.args.pool.now c.args.layout c.requires.stands, c.requires.served, c.drafter.invariant.steps, ap (λ (d : Draft). d.pool_size) c.drafter.view_is, c.clear.ensures.capacity, c.append.ensures.capacity);
      few_cells = omega (arith, ap length (listed_here (goal.at.paint-requires c).After-as_slice-cells), visits_length (tree_at c.args.layout (forest c.args.pool.now)), few_in c.args.layout c.args.pool.now c.requires.stands);
      painting = (_, line_here (goal.at.paint-requires c).After-append, row_room c.args.pool.now c.args.layout c.args.row c.args.text.now c.requires.stands c.requires.layout c.requires.room);
      stands = search rules;
      few_extents = search rules;
    }

pub returns-clause-written : goal.returns-clause-written
returns-clause-written c = c.paint.ensures.painted _ (line_here (goal.at.returns-clause-written c).After-append)
