use Rattle.pool_layouts.proofs.{Shared.{◌∙◌, Option, sym, subst, Kind, bare, size_of_payload, forest, IsStopped, around_sizes}, Placing.{refused_err}}
use Rattle.pool_layouts.proofs.laying.place_mark.Goals as goal

pub returns-in-Err-clause-full : goal.returns-in-Err-clause-full
returns-in-Err-clause-full c =
    subst (λ (m : Option Kind). IsStopped (forest c.args.pool.now) (around_sizes m) c.args.pool.now c.node.new.pool c.in-Err.full) (sym c.in-Some.is ∙ c.mark_before.ensures)
    (refused_err c.args.pool.now c.node.new.pool (size_of_payload (bare c.in-Some.mark)) c.in-Err.full c.in-Err.ensures.full c.in-Err.ensures.exactly.1)
