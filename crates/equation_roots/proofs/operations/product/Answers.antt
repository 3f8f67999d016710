use Rattle.equation_roots.proofs.{Misfits.{product_misfit}, Wide.{handed}}
use Rattle.equation_roots.proofs.operations.product.Goals as goal

pub returns-in-None-clause-overflow : goal.returns-in-None-clause-overflow
returns-in-None-clause-overflow c =
    rw (c.overflow.ensures.operation, c.overflow.ensures.first, c.overflow.ensures.second) (product_misfit (handed c.args.a) (handed c.args.b) c.in-None.ensures)
