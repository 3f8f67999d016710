use Rattle.surd_terms.proofs.Radicands.{clean_one}
use Rattle.surd_terms.proofs.products.product.Goals as goal

pub product_with-requires : goal.product_with-requires
product_with-requires c = clean_one
