use Rattle.sum_reduce.proofs.{Shared.{◌++◌, joint_given}, Hindered.{numbers_named}}
use Rattle.sum_reduce.proofs.numbers.AddingJoins.join.Goals as goal

pub returns-clause-ok : goal.returns-clause-ok
returns-clause-ok c = joint_given (λ v w. v ++ w) _ _ _ c.add_numbers.new.pool c.add_numbers.result c.add_numbers.ensures.ok c.add_numbers.ensures.measured

pub returns-clause-overflow : goal.returns-clause-overflow
returns-clause-overflow c = numbers_named _ _ c.add_numbers.new.pool c.add_numbers.result c.add_numbers.ensures.rationals c.add_numbers.ensures.overflow
