use Rattle.product_reduce.proofs.{Shared.{ap, ◌∙◌, has_undef}, Products.{product_expression, product_children}}
use Rattle.product_reduce.proofs.factors.has_undef_factor.Goals as goal

pub has_undefined_child-requires-clause-expression : goal.has_undefined_child-requires-clause-expression
has_undefined_child-requires-clause-expression c = rw c.id.ensures (product_expression c.requires.stands c.requires.product)

pub returns : goal.returns
returns c = rw c.id.ensures at c.has_undefined_child.ensures ∙ ap has_undef (product_children c.requires.stands c.requires.product)
