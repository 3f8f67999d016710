use Rattle.number_forms.proofs.{Shared.{sym, ◌∙◌}, ByKind.{product_by_children}}
use Rattle.number_forms.proofs.shape.shape_of_product.Goals as goal

pub returns-in-Some-root_at : goal.returns-in-Some-root_at
returns-in-Some-root_at c =
    product_by_children _ _ _ c.requires.product (sym (c.children.ensures.plain c.requires.expression) ∙ c.if-children-ne2.false)
    (sym (c.child_id.ensures.plain c.requires.expression) ∙ c.in-Some.ensures) (sym (c.child_id-2.ensures.plain c.requires.expression) ∙ c.in-Some-root_at.ensures)
