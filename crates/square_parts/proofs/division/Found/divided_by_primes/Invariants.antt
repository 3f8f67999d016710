use Rattle.square_parts.proofs.Shared.{◌≡◌, ◌%◌, length, number_of, IsFound, IsDividedBelow}
use Rattle.square_parts.proofs.division.Found.divided_by_primes.Given as goal

abbrev pub invariant-loop-primes : goal.invariant-loop-primes
invariant-loop-primes l = record {
  same : number_of l.found ≡ number_of l.fn.self;
  found : IsFound l.found;
  next : IsDividedBelow l.primes l.found.rest;
  fours : length l.primes % 4 ≡ 0;
}

abbrev pub decreases-loop-primes : goal.decreases-loop-primes
decreases-loop-primes l = length l.primes
