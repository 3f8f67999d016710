use Rattle.tree_bench.proofs.Shared.{arith, subst, sym, ap, ◌∙◌, ◌+◌, ℕ, size_of_header, IsBoundary, starts, step}
use Rattle.tree_bench.proofs.pool.remove_from_the_front.Goals as goal

pub header-requires-clause-boundary : goal.header-requires-clause-boundary
header-requires-clause-boundary c = starts c.loop.pool.nodes

pub remove_block-requires-clause-from : goal.remove_block-requires-clause-from
remove_block-requires-clause-from c = starts c.loop.pool.nodes

pub remove_block-requires-clause-to : goal.remove_block-requires-clause-to
remove_block-requires-clause-to c =
    let size = c.size-size.ensures ∙ ap size_of_header c.header.ensures.value in
    subst (λ (n : ℕ). IsBoundary (0 + n) c.loop.pool.nodes) (sym size) (step 0 c.loop.pool.nodes (starts c.loop.pool.nodes) (omega (arith, c.used.ensures.value))).boundary
