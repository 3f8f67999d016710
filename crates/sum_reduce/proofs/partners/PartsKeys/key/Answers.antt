use Rattle.sum_reduce.proofs.{Shared.{◌∙◌, sym, product_kind, forest}, Parts.{product_key}}
use Rattle.sum_reduce.proofs.partners.PartsKeys.key.Goals as goal

pub returns-in-Mult-clause-valid : goal.returns-in-Mult-clause-valid
returns-in-Mult-clause-valid c =
    (product_key c.args.id c.coefficient_length.result (forest c.args.pool.now) c.requires.tree (product_kind _ (sym c.in-Mult.is ∙ c.kind.ensures.plain c.requires.tree))
    c.requires.keyed.0 c.requires.keyed.1 c.coefficient_length.ensures).valid
