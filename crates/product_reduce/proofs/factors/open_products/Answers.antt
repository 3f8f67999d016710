use Rattle.product_reduce.proofs.Products.{becomes_put}
use Rattle.product_reduce.proofs.factors.open_products.Goals as goal

pub returns-clause-opened : goal.returns-clause-opened
returns-clause-opened c = let h = c.open_children.ensures.opened in becomes_put c.requires.product h.are h.whole
