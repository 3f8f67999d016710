use Rattle.tree_bench.proofs.Shared.{refl, term_is_number, gives_as}
use Rattle.tree_bench.proofs.numbers.root.Goals as goal

pub returns-clause-ok : goal.returns-clause-ok
returns-clause-ok c = gives_as c.in_ok-root.ensures.ok refl (λ t h. term_is_number t h.0)
