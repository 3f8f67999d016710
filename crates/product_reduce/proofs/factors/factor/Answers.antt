use Rattle.product_reduce.proofs.{Shared.{ap, ◌∙◌, nth}, Products.{product_within, product_expression, product_children}}
use Rattle.product_reduce.proofs.factors.factor.Goals as goal

pub child_id-requires-clause-within : goal.child_id-requires-clause-within
child_id-requires-clause-within c = rw c.id.ensures (product_within c.args.at c.requires.stands c.requires.product c.requires.within)

pub returns-clause-expression : goal.returns-clause-expression
returns-clause-expression c = c.child_id.ensures.expression (rw c.id.ensures (product_expression c.requires.stands c.requires.product))

pub returns-clause-tree : goal.returns-clause-tree
returns-clause-tree c =
    rw c.id.ensures at c.child_id.ensures.plain (product_expression c.requires.stands c.requires.product) ∙ ap (nth c.args.at) (product_children c.requires.stands c.requires.product)
