use Rattle.sum_reduce.proofs.{Shared.{◌∙◌, gives_as}, Sums.{changes_rest}}
use Rattle.sum_reduce.proofs.endings.written.Goals as goal

pub returns-clause-tree : goal.returns-clause-tree
returns-clause-tree c = gives_as c.unwrapped.ensures.tree (changes_rest c.spread.ensures.changes) (λ t e. e ∙ c.spread.ensures.tree)
