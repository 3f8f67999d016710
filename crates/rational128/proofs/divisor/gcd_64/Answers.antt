use Rattle.rational128.proofs.{Shared.{arith, w64}, Divisors.{splits_twos, IsGcd-from_odd}}
use Rattle.rational128.proofs.divisor.gcd_64.Goals as goal

pub odd_gcd_64-requires-clause-a_is_odd : goal.odd_gcd_64-requires-clause-a_is_odd
odd_gcd_64-requires-clause-a_is_odd c = (splits_twos w64 _ (omega arith) (omega arith)).odd

pub odd_gcd_64-requires-clause-b_is_odd : goal.odd_gcd_64-requires-clause-b_is_odd
odd_gcd_64-requires-clause-b_is_odd c = (splits_twos w64 _ (omega arith) (omega arith)).odd

pub returns : goal.returns
returns c = IsGcd-from_odd w64 _ _ _ _ (omega arith) (omega arith) (omega arith) (omega arith) c.odd_gcd_64.ensures c.min.ensures
