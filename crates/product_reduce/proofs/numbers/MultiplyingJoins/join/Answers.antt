use Rattle.product_reduce.proofs.Misfits.{product_named}
use Rattle.product_reduce.proofs.numbers.MultiplyingJoins.join.Goals as goal

pub returns-clause-overflow : goal.returns-clause-overflow
returns-clause-overflow c = product_named _ _ c.multiply_numbers.new.pool c.multiply_numbers.result c.multiply_numbers.ensures.rationals c.multiply_numbers.ensures.overflow
