use Rattle.expand_forms.proofs.{Shared.{list_as, list_product, if_ok_map}, ValueNodes.{turned_same}}
use Rattle.expand_forms.proofs.by_values.multiply.Goals as goal

pub returns-else-a-b : goal.returns-else-a-b
returns-else-a-b c = λ ns v w h k. if_ok_map c.product-else-a-b.result c.product-else-a-b.ensures.terms (λ x t. list_as (turned_same h k) (list_product k h t))
