use Rattle.expand_forms.proofs.{Shared.{◌∙◌, sym, plain, tree_at, forest}, TermKeys.{no_key, number_factors}}
use Rattle.expand_forms.proofs.ordering.monomial_key.Goals as goal

pub returns-in-Num : goal.returns-in-Num
returns-in-Num c = λ m h. no_key (forest c.args.pool.now) h (number_factors (plain (tree_at c.args.term (forest c.args.pool.now))) (sym c.in-Num.is ∙ c.kind.ensures.plain c.requires.expression))
