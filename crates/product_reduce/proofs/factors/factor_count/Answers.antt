use Rattle.product_reduce.proofs.{Shared.{ap, ◌∙◌, count}, Products.{product_live, product_expression, product_children}}
use Rattle.product_reduce.proofs.factors.factor_count.Goals as goal

pub children-requires-clause-live : goal.children-requires-clause-live
children-requires-clause-live c = rw c.id.ensures (product_live c.requires.product)

pub returns : goal.returns
returns c = rw c.id.ensures at c.children.ensures.plain (product_expression c.requires.stands c.requires.product) ∙ ap count (product_children c.requires.stands c.requires.product)
