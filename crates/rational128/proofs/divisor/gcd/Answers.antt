use Rattle.rational128.proofs.{Shared.{arith, w128}, Divisors.{splits_twos, IsGcd-from_odd, IsGcd-one}}
use Rattle.rational128.proofs.divisor.gcd.Goals as goal

pub returns-then-a-eq1 : goal.returns-then-a-eq1
returns-then-a-eq1 c = IsGcd-one _ _ c.then-a-eq1.either

pub odd_gcd-requires-clause-a_is_odd : goal.odd_gcd-requires-clause-a_is_odd
odd_gcd-requires-clause-a_is_odd c = (splits_twos w128 _ (omega arith) (omega arith)).odd

pub odd_gcd-requires-clause-b_is_odd : goal.odd_gcd-requires-clause-b_is_odd
odd_gcd-requires-clause-b_is_odd c = (splits_twos w128 _ (omega arith) (omega arith)).odd

pub returns : goal.returns
returns c = IsGcd-from_odd w128 _ _ _ _ (omega arith) (omega arith) (omega arith) (omega arith) c.odd_gcd.ensures c.min.ensures

pub returns-then-b : goal.returns-then-b
returns-then-b c = rw c.from.ensures c.gcd_64.ensures
