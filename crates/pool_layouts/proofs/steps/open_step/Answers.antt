use Rattle.pool_layouts.proofs.{Shared.{sym, subst, Step, Opens, Shows, ShowsLevel}, Opening.level_opens}
use Rattle.pool_layouts.specs.declared.steps.Step.TheVariants as step
use Rattle.pool_layouts.proofs.steps.open_step.Goals as goal

pub returns-in-Level : goal.returns-in-Level
returns-in-Level c = λ base cs h.
    let p : ShowsLevel base c.args.cells.now c.args.extents.now c.in-Level.span c.in-Level.above c.in-Level.row cs =
    subst (λ (s : Step). Shows base c.args.cells.now c.args.extents.now s cs) c.in-Level.is h in
    subst (λ (s : Step). Opens base c.args.cells.now c.args.extents.now s cs c.open_level.result) (sym c.in-Level.is)
    (subst (Opens base c.args.cells.now c.args.extents.now (step.Level c.in-Level.span c.in-Level.above c.in-Level.row) cs) (sym c.open_level.ensures)
    (level_opens c.extent_at-part.result p (c.extent_at-part.ensures.value p.label p.below p.others p.listed.small)))
