use Rattle.product_reduce.proofs.OneOrder.{written_once}
use Rattle.product_reduce.proofs.laws.products_are_written_once.Goals as goal

pub returns : goal.returns
returns c = written_once
