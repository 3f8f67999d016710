use Rattle.square_parts.proofs.{Shared.{arith}, CleanParts.{whole_found, nothing_below_two}}
use Rattle.square_parts.proofs.splitting.split.Goals as goal

pub divided_by-requires-clause-found : goal.divided_by-requires-clause-found
divided_by-requires-clause-found c = whole_found c.args.r c.requires.positive c.requires.fits

pub divided_by-requires-clause-next : goal.divided_by-requires-clause-next
divided_by-requires-clause-next c = (c.odd_primes-primes.result.now, record { from = 2; two = omega arith; below = nothing_below_two c.args.r; primes = c.odd_primes-primes.ensures.all })

pub divided_by_primes-requires-clause-next : goal.divided_by_primes-requires-clause-next
divided_by_primes-requires-clause-next c =
    c.divided_by.ensures.next c.odd_primes-primes.result.now (record { from = 2; two = omega arith; below = nothing_below_two c.args.r; primes = c.odd_primes-primes.ensures.all })

pub divided_by_primes-requires-clause-fours : goal.divided_by_primes-requires-clause-fours
divided_by_primes-requires-clause-fours c = omega (arith, c.odd_primes-primes.ensures.fours)
